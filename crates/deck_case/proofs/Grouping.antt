-- How the lists of entries grow entry by entry.
use Rattle.std.proofs.Common.{ℕ, ◌<◌, ◌≡◌, List, [], length, get_or}
use Rattle.decks.specs.declared.deck.Entry.{Entry}
use Rattle.decks.specs.Decks.{entries_of}

-- each list has the entries of its row
abbrev pub HasEntries : List (List Entry) → List Entry → Type 0
HasEntries lists es = (k : ℕ) → k < length lists → get_or lists k [] ≡ entries_of es k
