pub mod FlagLaws
pub mod Unassumed
pub mod RunSteps
pub mod Growth
pub mod Soundness
pub mod Barring
pub mod LogLaws
