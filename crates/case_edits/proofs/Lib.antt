pub mod CaseLaws
pub mod Copies
pub mod KeptLaws
