pub mod Lists
pub mod Numbers
pub mod Totals
pub mod Singles
pub mod Keeping
pub mod Narrowness
pub mod LcpDeck
pub mod BilevelDeck
