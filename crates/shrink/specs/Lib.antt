pub mod Shrinking
pub mod Known
pub mod Trials
