pub mod Acceptance
pub mod Barring
pub mod Results
pub mod Names
