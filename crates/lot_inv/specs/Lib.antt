pub mod Foremost
pub mod Holding
pub mod Index
pub mod Inventory
pub mod Lot
pub mod Lots
pub mod Zeros
