pub mod Fractions
pub mod Decimals
pub mod Significands
pub mod NumberFaults
pub mod Texts
