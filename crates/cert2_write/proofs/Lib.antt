pub mod Pushes2
