pub mod Names
pub mod Problems
pub mod Spelling
pub mod Lines
pub mod Reading
pub mod Steps
pub mod Texts
pub mod Calls
