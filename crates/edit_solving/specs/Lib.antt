pub mod Meanings
pub mod Scripts
pub mod Runs
