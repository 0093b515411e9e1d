pub mod Activity
pub mod GainsBy
pub mod Gather
pub mod Held
pub mod Reconciliation
