pub mod Exits
pub mod OneAnswer
pub mod Statuses
