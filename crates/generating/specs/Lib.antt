pub mod Generating
