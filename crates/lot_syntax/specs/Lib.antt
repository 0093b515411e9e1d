pub mod Line
pub mod Token
pub mod Cutting
pub mod Form
pub mod Shape
pub mod Header
