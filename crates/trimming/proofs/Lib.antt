pub mod RenumberLaws
pub mod PathLaws
pub mod ReachLaws
pub mod MarkLaws
pub mod KeepLaws
