pub mod Turns
pub mod Solved
