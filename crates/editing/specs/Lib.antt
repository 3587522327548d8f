pub mod Refusals
pub mod Inputs
