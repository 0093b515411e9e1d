pub mod Status
pub mod Input
pub mod FaultLine
