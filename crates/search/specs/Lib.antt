pub mod FirstPieces
pub mod Growth
pub mod Walks
pub mod Chosen
pub mod Progress
pub mod Kept
