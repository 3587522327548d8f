pub mod Lists
pub mod StepLaws
pub mod FormLaws
pub mod TermLaws
pub mod LineLaws
pub mod Choices
pub mod TrimLaws
pub mod CertLaws
