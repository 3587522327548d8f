pub mod LaneLaws
pub mod OwnLaws
