mod Statuses
mod Founds
mod Tails
