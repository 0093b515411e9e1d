pub mod Printed
pub mod Report
pub mod Written
pub mod Journal
pub mod Fed
pub mod Gains
pub mod Proceeds
pub mod Holdings
