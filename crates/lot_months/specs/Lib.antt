pub mod Range
pub mod Lots
pub mod Prices
pub mod Ends
pub mod Series
