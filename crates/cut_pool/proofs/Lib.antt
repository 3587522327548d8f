pub mod Order
pub mod OneCase
pub mod Equal
pub mod Hands
pub mod Counting
pub mod Taking
pub mod FirstPages
pub mod Readying
