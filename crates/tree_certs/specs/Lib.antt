pub mod Derivations
pub mod Refuting
pub mod Certs
