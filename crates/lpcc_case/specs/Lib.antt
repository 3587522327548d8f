pub mod Instance
pub mod Forms
pub mod Cases
pub mod Points
pub mod Pieces
pub mod Verdicts
pub mod NarrowPoints
pub mod Values
