pub mod Collects
pub mod Laws
pub mod Worked
