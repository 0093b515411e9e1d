pub mod Amounts
pub mod Books
pub mod Fault
pub mod Lines
pub mod Sums
