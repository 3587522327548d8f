pub mod Numbers
pub mod Command
pub mod Commands
