pub mod Gains
pub mod Holdings
pub mod Journal
pub mod Place
pub mod Prices
pub mod SaleStep
pub mod Sold
pub mod Step
