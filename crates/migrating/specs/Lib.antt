pub mod Migration
pub mod Making
