pub mod GcdLaws
pub mod OrderLaws
pub mod FractionLaws
pub mod DigitLaws
pub mod DecimalLaws
