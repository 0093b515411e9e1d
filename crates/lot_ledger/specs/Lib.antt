pub mod Decide
pub mod Fit
