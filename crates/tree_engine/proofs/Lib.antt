pub mod Lists
pub mod PathLaws
mod BestLaws
mod TreeLaws
mod RunLaws
pub mod LoosePairs
mod Visits
pub mod Pieces
mod Turns
mod Sides
