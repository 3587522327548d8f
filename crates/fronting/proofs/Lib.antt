pub mod ReadOnce
pub mod FrontRuns
