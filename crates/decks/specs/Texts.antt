-- Under `yes`: which deck a text spells, and which fault is its first.
use Rattle.std.specs.Prelude.{◌≡◌, ℕ, ◌+◌, ◌⊎◌, Bool, true, false, List, [], ◌∷◌, ◌++◌, length, Option, None, Some}
use Rattle.lp_base.specs.Answers.{UnlessShort}
use Rattle.mps_lex.specs.Lines.{Line, lines_of}
use Rattle.mps_lex.specs.declared.line.LineKind.{LineKind}
use Rattle.mps_lex.specs.declared.line.Section.TheVariants.{Endata}
use Rattle.decks.specs.declared.deck.Deck.{Deck}
use Rattle.decks.specs.declared.fault.DeckWhy.{DeckWhy}
use Rattle.decks.specs.declared.fault.DeckWhy.TheVariants.{NotClosed}
use Rattle.decks.specs.declared.fault.DeckFault.{DeckFault}
use Rattle.decks.specs.declared.fault.DeckFault.TheVariants.{NoMemory, At}
use Rattle.decks.specs.Sections.{is_head}
use Rattle.decks.specs.Spelling.{deck_of, size_of}
use Rattle.decks.specs.Faults.{Found, fault_of}

abbrev pub ends_deck : LineKind → Bool
ends_deck kind = is_head Endata kind

-- behind the lines before, none of these lines has a fault, and none is ENDATA
abbrev pub IsClean : List Line → List Line → Type 0
IsClean before [] = Unit {0}
IsClean before (l ∷ ls) = (fault_of before l ≡ None) × (ends_deck l.kind ≡ false) × IsClean (before ++ l ∷ []) ls

-- behind the lines before, the lines spell the deck: clean lines, and then ENDATA in its place.
-- The place is that of the first byte behind these lines.
pub record SpellsBehind (before ls : List Line) (deck : Deck) (place : ℕ) : Type 0 where
  pub front : List Line
  pub last : Line
  pub rest : List Line
  pub lines : ls ≡ front ++ last ∷ rest
  pub clean : IsClean before front
  pub right : fault_of (before ++ front) last ≡ None
  pub ends : ends_deck last.kind ≡ true
  pub deck_is : deck ≡ deck_of (before ++ front) last.number
  pub place_is : place ≡ size_of ((before ++ front) ++ last ∷ [])

-- behind the lines before, this is the fault of the first line with a fault
pub record FailsBehind (before ls : List Line) (found : Found) : Type 0 where
  pub front : List Line
  pub line : Line
  pub rest : List Line
  pub lines : ls ≡ front ++ line ∷ rest
  pub clean : IsClean before front
  pub fault : fault_of (before ++ front) line ≡ Some found

-- the text spells the deck by its first lines, which end before this place
abbrev pub Spells : List ℕ → Deck → ℕ → Type 0
Spells text deck place = SpellsBehind [] (lines_of text) deck place

-- the first line of the text with a fault has this one, or no ENDATA comes: the fault is then named behind the last line
abbrev pub Fails : List ℕ → ℕ → DeckWhy → Type 0
Fails text number why =
    FailsBehind [] (lines_of text) (number, why)
    ⊎ (IsClean [] (lines_of text) × (number ≡ length (lines_of text) + 1) × (why ≡ NotClosed))

-- the line and the fault that a call names, none where memory is short
abbrev pub found_by : DeckFault → Option Found
found_by (NoMemory e) = None
found_by (At line why) = Some (line, why)

-- the fault that a call names is the text's first, unless memory is short
abbrev pub FailsAs : DeckFault → List ℕ → Type 0
FailsAs fault text = UnlessShort found_by (λ found. Fails text found.0 found.1) fault
