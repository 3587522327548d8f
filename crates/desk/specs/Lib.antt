pub mod Tickets
pub mod Desks
pub mod Settling
pub mod Absorbing
