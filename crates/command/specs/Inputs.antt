-- Which case the bytes of an input spell, and for which refusal they are the cause, by the definitions of decks and cases alone.
use Rattle.std.specs.Prelude.{◌≡◌, ◌<◌, ◌≤◌, ◌⊎◌, ℕ, List, Option, None, Some, Result, Ok, Err, drop, length}
use Rattle.lpcc_case.specs.Instance.{Instance}
use Rattle.lpcc_case.specs.declared.verdict.Verdict.{Verdict}
use Rattle.decks.specs.After.{first_after}
use Rattle.decks.specs.Texts.{Spells, Fails}
use Rattle.decks.specs.declared.deck.Deck as decks
use Rattle.decks.specs.declared.fault.DeckWhy.{DeckWhy}
use Rattle.decks.specs.declared.fault.DeckWhy.TheVariants.{AfterEnd}
use Rattle.deck_case.specs.declared.fault.CaseFault.{CaseFault}
use Rattle.deck_case.specs.declared.fault.CaseFault.TheVariants as case_fault
use Rattle.deck_case.specs.DeckCases.{HasCase}
use Rattle.deck_case.specs.DeckVerdicts.{IsTrueOfDeck}
use Rattle.deck_case.specs.Faults.{HasCaseFault}
use Rattle.command.specs.declared.extent.Extent.{Extent}
use Rattle.command.specs.declared.extent.Extent.TheVariants.{Alone, Prefix}
use Rattle.command.specs.declared.refusal.Refusal.{Refusal}
use Rattle.command.specs.declared.refusal.Refusal.TheVariants.{ReadFault, TooLong, Deck, RowWide, TooMany, NoMemory}

-- no more bytes than a command takes
abbrev pub IsTaken : ℕ → List ℕ → Type 0
IsTaken limit bytes = length bytes ≤ limit

-- the line behind a deck that is not to be there: for a deck alone the first that is neither blank nor a comment
abbrev pub unwanted : Extent → List ℕ → ℕ → Option ℕ
unwanted Alone bytes place = first_after bytes place
unwanted Prefix bytes place = None

-- the bytes begin with a deck that has this case, and behind the line of its ENDATA stand these bytes
pub record SpellsCase (extent : Extent) (bytes : List ℕ) (a : Instance) (rest : List ℕ) : Type 0 where
  pub deck : decks.Deck
  pub place : ℕ
  pub spelled : Spells bytes deck place
  pub alone : unwanted extent bytes place ≡ None
  pub case : HasCase deck a
  pub behind : rest ≡ drop place bytes

-- the bytes begin with a deck, and this line stands behind it against the command's extent
pub record HasUnwanted (extent : Extent) (bytes : List ℕ) (line : ℕ) : Type 0 where
  pub deck : decks.Deck
  pub place : ℕ
  pub spelled : Spells bytes deck place
  pub first : unwanted extent bytes place ≡ Some line

-- this line of the deck is the first with a fault, or the first behind a deck that is not to be there
abbrev pub HasDeckFault : Extent → List ℕ → ℕ → DeckWhy → Type 0
HasDeckFault extent bytes line why = Fails bytes line why ⊎ ((why ≡ AfterEnd) × HasUnwanted extent bytes line)

-- the bytes begin with a deck, which has no case for this reason
pub record HasNoCase (extent : Extent) (bytes : List ℕ) (fault : CaseFault) : Type 0 where
  pub deck : decks.Deck
  pub place : ℕ
  pub spelled : Spells bytes deck place
  pub alone : unwanted extent bytes place ≡ None
  pub no_case : HasCaseFault deck fault

-- the bytes are the cause of this refusal; a read fault, too many bytes and want of memory have none in a deck
abbrev pub IsFaulty : Extent → List ℕ → Refusal → Type 0
IsFaulty extent bytes ReadFault = ⊥
IsFaulty extent bytes TooLong = ⊥
IsFaulty extent bytes (Deck line why) = HasDeckFault extent bytes line why
IsFaulty extent bytes (RowWide line) = HasNoCase extent bytes (case_fault.RowWide line)
IsFaulty extent bytes (TooMany line) = HasNoCase extent bytes (case_fault.TooMany line)
IsFaulty extent bytes NoMemory = ⊥

-- with a limit of bytes: there are more, or the deck is the cause
abbrev pub IsRefusal : ℕ → Extent → List ℕ → Refusal → Type 0
IsRefusal limit extent bytes refusal =
    ((refusal ≡ TooLong) × (limit < length bytes)) ⊎ (IsTaken limit bytes × IsFaulty extent bytes refusal)

-- a deck with this case, and behind it blank lines and comments alone
abbrev pub SpellsAlone : List ℕ → Instance → Type 0
SpellsAlone bytes a = (rest : List ℕ) × SpellsCase Alone bytes a rest

-- what is read of a deck alone: its case, or the refusal
abbrev pub IsReadAlone : ℕ → List ℕ → Result Instance Refusal → Type 0
IsReadAlone limit bytes (Ok a) = IsTaken limit bytes × SpellsAlone bytes a
IsReadAlone limit bytes (Err refusal) = IsRefusal limit Alone bytes refusal

-- the verdict is true of the deck with which the bytes begin
pub record IsTrueOfBytes (bytes : List ℕ) (verdict : Verdict) : Type 0 where
  pub deck : decks.Deck
  pub place : ℕ
  pub spelled : Spells bytes deck place
  pub is_true : IsTrueOfDeck deck verdict
