pub mod Rows
pub mod OneDenominator
pub mod Sparse
pub mod Exchanged
pub mod Exact
