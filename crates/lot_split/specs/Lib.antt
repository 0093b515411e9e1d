pub mod Lots
pub mod Crumbs
pub mod Split
pub mod Weights
pub mod Held
pub mod Form
