pub mod Refusals
pub mod Inputs
pub mod Runs
