pub mod Left
pub mod Register
pub mod Text
