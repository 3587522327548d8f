pub mod Texts
pub mod Branching
