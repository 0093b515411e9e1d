pub mod Bars
pub mod Grid
pub mod Lines
pub mod Month
pub mod Plot
