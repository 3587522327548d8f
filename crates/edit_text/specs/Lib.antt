pub mod Names
pub mod Scripts
pub mod Spelling
pub mod Reading
pub mod Texts
pub mod Steps
