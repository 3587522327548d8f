pub mod Saying
pub mod Accepting
pub mod Keys
pub mod Counting
pub mod Lasting
pub mod Joining
pub mod Keeping
