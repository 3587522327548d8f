pub mod Values
pub mod Divisors
pub mod Duals
pub mod Bases
pub mod Steps
pub mod Walks
pub mod Climbs
pub mod Ends
