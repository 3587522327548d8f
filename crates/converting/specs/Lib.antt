pub mod Refusals
pub mod Readings
pub mod Runs
