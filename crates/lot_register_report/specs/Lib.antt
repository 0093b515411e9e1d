pub mod Show
