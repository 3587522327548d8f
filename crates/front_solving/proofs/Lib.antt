pub mod Shown
pub mod Optima
pub mod Columns
pub mod Costs
pub mod Meaning
pub mod Answered
