pub mod Naming
pub mod Meaning
pub mod Saying
pub mod Verdicts
pub mod Budgets
pub mod Runs
