pub mod Numbers
pub mod Sums
pub mod Ascending
pub mod Answers
