pub mod HintRuns
pub mod Flags
pub mod Logs
