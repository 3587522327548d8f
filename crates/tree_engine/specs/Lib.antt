pub mod Bests
pub mod Paths
pub mod Trees
pub mod Runs
pub mod Nodes
pub mod Answers
pub mod Closings
