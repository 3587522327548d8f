pub mod Cutting
pub mod First
pub mod Placing
pub mod Passing
pub mod Slicing
