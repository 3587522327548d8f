-- When a deck has no case.
use Rattle.std.specs.Prelude.{◌≡◌, Some, slice_get}
use Rattle.decks.specs.declared.deck.Deck.{Deck}
use Rattle.deck_case.specs.declared.fault.CaseFault.{CaseFault}
use Rattle.deck_case.specs.declared.fault.CaseFault.TheVariants.{RowWide, TooMany, NoMemory}
use Rattle.deck_case.specs.DeckCases.{HasTooMany}
use Rattle.deck_case.specs.Wide.{wide_lines}

-- the fault of a deck without a case: the first line that names what is too wide, else ENDATA where there are too many constraints
abbrev pub HasCaseFault : Deck → CaseFault → Type 0
HasCaseFault d (RowWide line) = slice_get (wide_lines d) 0 ≡ Some line
HasCaseFault d (TooMany line) = HasTooMany d × (line ≡ d.end_line)
HasCaseFault d (NoMemory error) = ⊥

abbrev pub IsNoMemory : CaseFault → Type 0
IsNoMemory (RowWide line) = ⊥
IsNoMemory (TooMany line) = ⊥
IsNoMemory (NoMemory error) = Unit {0}

-- what may be answered for a deck: its fault, and want of memory for any deck
abbrev pub IsFaultOf : Deck → CaseFault → Type 0
IsFaultOf d (RowWide line) = HasCaseFault d (RowWide line)
IsFaultOf d (TooMany line) = HasCaseFault d (TooMany line)
IsFaultOf d (NoMemory error) = Unit {0}
