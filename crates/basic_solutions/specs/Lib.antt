pub mod Tables
pub mod Writes
pub mod Solutions
pub mod Commons
pub mod Readings
pub mod RowCuts
pub mod Orders
