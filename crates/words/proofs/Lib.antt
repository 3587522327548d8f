mod Values
mod RowLemmas
mod Parses
