pub mod DeskParts
pub mod Searches
pub mod Lines
pub mod Stuck
pub mod Absorbing
