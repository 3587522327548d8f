pub mod Printed
pub mod Meanings
