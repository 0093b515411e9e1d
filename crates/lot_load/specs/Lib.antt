pub mod Known
pub mod Paired
pub mod Tells
pub mod Kept
pub mod Damage
