pub mod Columns
pub mod Steps
pub mod Marks
pub mod Exchange
pub mod CutLaws
