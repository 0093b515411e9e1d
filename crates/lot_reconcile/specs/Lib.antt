pub mod Balance
pub mod Table
