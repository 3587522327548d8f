pub mod Comments
pub mod Runs
