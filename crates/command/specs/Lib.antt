pub mod Refusals
pub mod Inputs
pub mod Answers
pub mod Runs
