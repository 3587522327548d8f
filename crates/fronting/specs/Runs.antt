-- A run of a command that reads the text of a problem and says something of it.
use Rattle.std.specs.Prelude.{◌≡◌, ℕ, List, Option, Result, Ok, Err}
use Rattle.std.specs.Io.KnownBytes.{Appends}
use Rattle.front_text.specs.declared.fault.FrontWhy.{FrontWhy}
use Rattle.front_text.specs.declared.problem.Bilevel.{Bilevel}
use Rattle.front_text.specs.declared.problem.Lcp.{Lcp}
use Rattle.front_text.specs.Texts.{FailsAsBilevel, FailsAsLcp, SpellsBilevel, SpellsLcp}
use Rattle.command.specs.Answers.{IsAnswer, IsWritten}
use Rattle.command.specs.declared.reading.TheConstants.{MOST_DECK_BYTES}
use Rattle.kkt_front.specs.DeckTexts.{bilevel_text, lcp_text}
use Rattle.front_deck.specs.Meanings.{IsDeckOfBilevel, IsDeckOfLcp}
use Rattle.fronting.specs.Inputs.{IsRead}
use Rattle.fronting.specs.Refusals.{status_of, text_of}
use Rattle.fronting.specs.declared.refusal.FrontRefusal.{FrontRefusal}
use Rattle.fronting.specs.declared.refusal.FrontRefusal.TheVariants.{NoMemory, ReadFault}

-- what is read of a source with these bytes left, whose count of faults was `before` and is `now`: the problem, or the refusal
abbrev pub IsRightProblem : {P : Type 0} → (List ℕ → P → Type 0) → (List ℕ → ℕ → FrontWhy → Type 0) → Option (List ℕ) → ℕ → ℕ → Result P FrontRefusal → Type 0
IsRightProblem Spells Fails left before now read = IsAnswer (IsRead Spells Fails MOST_DECK_BYTES) (Err ReadFault) (Err NoMemory) left before now read

-- what is written: the text of the refusal, or a text that the command may say of the problem, with the status that goes with it
abbrev pub IsWrittenFor : {P : Type 0} → (P → List ℕ → ℕ → Type 0) → Result P FrontRefusal → Option (List ℕ) → Option (List ℕ) → ℕ → ℕ → ℕ → Type 0
IsWrittenFor Says (Ok p) taken_before taken_now before now status =
    (text : List ℕ) × (meant : ℕ) × Says p text meant × IsWritten taken_before taken_now before now text meant status
IsWrittenFor Says (Err refusal) taken_before taken_now before now status =
    IsWritten taken_before taken_now before now (text_of refusal) (status_of refusal) status

-- The run over a source with these bytes left and a sink that took these, with the counts of faults of both before and
-- behind it. `Says` relates a problem to the texts, each with its status, that the command may write of it.
pub record IsFrontRun {P : Type 0} (Spells : List ℕ → P → Type 0) (Fails : List ℕ → ℕ → FrontWhy → Type 0) (Says : P → List ℕ → ℕ → Type 0)
    (left : Option (List ℕ)) (read_before read_now : ℕ) (taken_before taken_now : Option (List ℕ)) (write_before write_now : ℕ) (status : ℕ) : Type 0 where
  pub read : Result P FrontRefusal
  pub right : IsRightProblem Spells Fails left read_before read_now read
  pub written : IsWrittenFor Says read taken_before taken_now write_before write_now status

-- ---- the two kinds of problems

abbrev pub IsLcpRun : (Lcp → List ℕ → ℕ → Type 0) → Option (List ℕ) → ℕ → ℕ → Option (List ℕ) → Option (List ℕ) → ℕ → ℕ → ℕ → Type 0
IsLcpRun Says left rb rn tb tn wb wn status = IsFrontRun SpellsLcp FailsAsLcp Says left rb rn tb tn wb wn status

abbrev pub IsBilevelRun : (Bilevel → List ℕ → ℕ → Type 0) → Option (List ℕ) → ℕ → ℕ → Option (List ℕ) → Option (List ℕ) → ℕ → ℕ → ℕ → Type 0
IsBilevelRun Says left rb rn tb tn wb wn status = IsFrontRun SpellsBilevel FailsAsBilevel Says left rb rn tb tn wb wn status

-- ---- the deck is printed

abbrev pub IsLcpDeck : Lcp → List ℕ → ℕ → Type 0
IsLcpDeck p text status = (text ≡ lcp_text p) × (status ≡ 0)

abbrev pub IsBilevelDeck : Bilevel → List ℕ → ℕ → Type 0
IsBilevelDeck p text status = (text ≡ bilevel_text p) × (status ≡ 0)

-- ---- what status 0 says

-- The bytes spell a problem, and the text that was written is that of its deck. `IsDeckOf` says what such a text means: which deck it spells when it
-- is read, and which points are feasible for the deck's case.
pub record IsDeckWritten {P : Type 0} (Spells : List ℕ → P → Type 0) (deck_text : P → List ℕ) (IsDeckOf : List ℕ → P → Type 0) (bytes : List ℕ) (taken_before taken_now : Option (List ℕ)) : Type 0 where
  pub p : P
  pub spelled : Spells bytes p
  pub written : Appends taken_before taken_now (deck_text p)
  pub means : IsDeckOf (deck_text p) p

abbrev pub SaysLcpDeck : List ℕ → Option (List ℕ) → Option (List ℕ) → Type 0
SaysLcpDeck bytes taken_before taken_now = IsDeckWritten SpellsLcp lcp_text IsDeckOfLcp bytes taken_before taken_now

abbrev pub SaysBilevelDeck : List ℕ → Option (List ℕ) → Option (List ℕ) → Type 0
SaysBilevelDeck bytes taken_before taken_now = IsDeckWritten SpellsBilevel bilevel_text IsDeckOfBilevel bytes taken_before taken_now
