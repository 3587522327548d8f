pub mod Judging
pub mod Keys
pub mod Placed
pub mod Counted
pub mod Shapes
pub mod Entered
pub mod Walking
