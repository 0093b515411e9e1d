pub mod Realised
pub mod Headline
pub mod Again
pub mod Calls
