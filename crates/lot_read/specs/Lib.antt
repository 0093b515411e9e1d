pub mod Meaning
pub mod Outside
pub mod Refusal
pub mod Checked
pub mod NameLaws
pub mod Line
pub mod Text
pub mod Reading
