pub mod Gains
pub mod Holdings
pub mod Record
pub mod Shares
