pub mod ListWords
pub mod Logs2
pub mod Forms2
pub mod Plain2
pub mod Certificates2
pub mod Frames2
pub mod Clauses2
