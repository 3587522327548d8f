pub mod Lines
pub mod Kinds
pub mod Places
pub mod Shown
pub mod First
