pub mod Key
pub mod Answer
pub mod Way
