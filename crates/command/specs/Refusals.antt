-- The texts and statuses of the refusals of an input.
use Rattle.std.specs.Prelude.{ℕ, List, [], ◌∷◌, ◌++◌, codes}
use Rattle.std.specs.Fmt.{decimal}
use Rattle.decks.specs.Whys.{why_name}
use Rattle.decks.specs.declared.fault.DeckFault.{DeckFault}
use Rattle.decks.specs.declared.fault.DeckFault.TheVariants as deck_fault
use Rattle.deck_case.specs.declared.fault.CaseFault.{CaseFault}
use Rattle.deck_case.specs.declared.fault.CaseFault.TheVariants as case_fault
use Rattle.command.specs.declared.refusal.Refusal.{Refusal}
use Rattle.command.specs.declared.refusal.Refusal.TheVariants.{ReadFault, TooLong, Deck, RowWide, TooMany, NoMemory}

-- a line of the deck with what is wrong there
abbrev pub deck_line : ℕ → List ℕ → List ℕ
deck_line line name = codes "deck: line " ++ decimal line ++ codes ": " ++ name

-- the one line of a refusal
abbrev pub line_of : Refusal → List ℕ
line_of ReadFault = codes "read fault"
line_of TooLong = codes "deck: too long"
line_of (Deck line why) = deck_line line (why_name why)
line_of (RowWide line) = deck_line line (codes "RowWide")
line_of (TooMany line) = deck_line line (codes "TooMany")
line_of NoMemory = codes "no memory"

abbrev pub text_of : Refusal → List ℕ
text_of refusal = line_of refusal ++ 10 ∷ []

abbrev pub status_of : Refusal → ℕ
status_of TooLong = 3
status_of (Deck line why) = 3
status_of (RowWide line) = 3
status_of (TooMany line) = 3
status_of ReadFault = 4
status_of NoMemory = 6

-- the refusals that go with the faults of a deck and of its case
abbrev pub of_deck_fault : DeckFault → Refusal
of_deck_fault (deck_fault.NoMemory error) = NoMemory
of_deck_fault (deck_fault.At line why) = Deck line why

abbrev pub of_case_fault : CaseFault → Refusal
of_case_fault (case_fault.NoMemory error) = NoMemory
of_case_fault (case_fault.RowWide line) = RowWide line
of_case_fault (case_fault.TooMany line) = TooMany line
