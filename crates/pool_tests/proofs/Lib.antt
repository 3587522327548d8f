pub mod SmallCase
