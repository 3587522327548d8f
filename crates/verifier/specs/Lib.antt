pub mod Answers
pub mod Judged
pub mod Causes
pub mod Runs
