pub mod OneReading
pub mod Exits
