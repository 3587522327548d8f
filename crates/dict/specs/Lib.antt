pub mod Terms
pub mod Equations
pub mod Exchanges
pub mod Dictionaries
pub mod Forms
pub mod Pivots
