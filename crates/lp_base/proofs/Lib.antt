pub mod Ring
pub mod Machine
pub mod SumLaws
pub mod Rises
