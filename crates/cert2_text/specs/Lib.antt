pub mod Certs2
pub mod Spelling2
pub mod Reading2
pub mod Faults2
pub mod Texts2
pub mod Steps2
pub mod Wholes
