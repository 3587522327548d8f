pub mod RecordLaws
pub mod RunLaws
pub mod TakingLaws
pub mod Unbarred
