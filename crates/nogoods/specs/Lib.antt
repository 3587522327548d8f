pub mod Choices
pub mod Pieces
