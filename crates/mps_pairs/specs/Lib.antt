pub mod Groups
pub mod Known
pub mod Answers
pub mod Fields
