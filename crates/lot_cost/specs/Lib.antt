pub mod CostSpec
pub mod LotKey
pub mod Method
