pub mod History
pub mod Rules
pub mod Passes
pub mod PointOrder
pub mod PointLaws
