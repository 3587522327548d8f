pub mod Merging
pub mod Showing
pub mod Faulting
pub mod Tested
pub mod Wholly
pub mod Judging2
pub mod Answering2
