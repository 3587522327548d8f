pub mod OneCase
pub mod CaseRuns
