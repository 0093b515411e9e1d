pub mod Canonical
pub mod Currencies
pub mod Sayable
