pub mod PointTerms
pub mod PieceChoices
pub mod Lines
pub mod Making
