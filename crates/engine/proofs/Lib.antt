pub mod Endings
pub mod Asides
pub mod Turns
