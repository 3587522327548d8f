pub mod Joins
pub mod Ranges
pub mod EntrySums
pub mod Rows
pub mod LcpMeaning
pub mod BilevelMeaning
pub mod LeastFollower
