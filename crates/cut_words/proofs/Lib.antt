pub mod Writes
pub mod Elements
pub mod Casts
pub mod Readings
