pub mod Acceptance2
pub mod Results2
