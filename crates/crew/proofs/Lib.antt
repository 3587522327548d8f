pub mod CrewLaws
pub mod Wider
