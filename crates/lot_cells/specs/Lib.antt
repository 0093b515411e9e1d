pub mod Cell
pub mod Entry
pub mod Gains
pub mod Holdings
pub mod Months
pub mod Sales
