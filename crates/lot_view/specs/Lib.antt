pub mod View
pub mod Holdings
pub mod Sets
