pub mod Forms
pub mod Relaxations
pub mod Endings
