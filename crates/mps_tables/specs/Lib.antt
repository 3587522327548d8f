pub mod Known
pub mod Answers
pub mod Seen
pub mod Fields
