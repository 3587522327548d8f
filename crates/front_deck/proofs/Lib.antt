pub mod Listed
pub mod Numbered
pub mod Parts
pub mod Texts
pub mod LcpPrinted
pub mod BilevelPrinted
pub mod Costs
pub mod Meaning
