pub mod DeckTexts
pub mod Solutions
pub mod Decks
