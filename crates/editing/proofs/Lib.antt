pub mod Exits
pub mod ReadOnce
