pub mod Book
pub mod Keys
