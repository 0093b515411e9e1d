pub mod Nearest
pub mod Rounding
pub mod Ratio
pub mod Asked
