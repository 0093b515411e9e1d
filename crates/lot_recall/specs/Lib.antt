pub mod Days
pub mod Noted
pub mod Ordered
pub mod Place
pub mod Recall
pub mod Scope
pub mod Wanted
