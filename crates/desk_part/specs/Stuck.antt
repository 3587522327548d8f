-- Which of the pieces set aside the ending names.
use Rattle.std.specs.Prelude.{◌≡◌, ◌<◌, ◌≤◌, ℕ, List, Option, Some, None, slice_get}
use Rattle.nogoods.specs.declared.choice.Choice.{Choice}
use Rattle.nogoods.specs.declared.choice.Side.{Side}
use Rattle.lpcc_case.specs.Instance.{Instance}
use Rattle.search.specs.FirstPieces.{IsBarred}
use Rattle.play.specs.declared.event.Aside.{Aside}
use Rattle.play.specs.declared.ending.Ending.{Ending}
use Rattle.play.specs.declared.ending.Ending.TheVariants as ending
use Rattle.play.specs.declared.outcome.Cause.{Cause}
use Rattle.play.specs.declared.outcome.Cause.TheVariants as cause
use Rattle.play.specs.Parts.{Part}
use Rattle.play.specs.Endings.{IsStuck, aside_of}

-- of the first n pieces set aside that are not barred, this one has the lowest ticket
pub record IsLowest (ngs : List (List Choice)) (aside : List Aside) (n at : ℕ) : Type 0 where
  pub entry : Aside
  pub within : at < n
  pub is_there : slice_get aside at ≡ Some entry
  pub unbarred : ¬ (IsBarred ngs entry.piece)
  pub lowest : (k : ℕ) (y : Aside) → k < n → slice_get aside k ≡ Some y → ¬ (IsBarred ngs y.piece) → entry.ticket ≤ y.ticket

-- of the first n pieces set aside the one of the lowest ticket that is not barred; none where all are barred
abbrev pub LowestUpto : List (List Choice) → List Aside → ℕ → Option ℕ → Type 0
LowestUpto ngs aside n None = (k : ℕ) (y : Aside) → k < n → slice_get aside k ≡ Some y → IsBarred ngs y.piece
LowestUpto ngs aside n (Some at) = IsLowest ngs aside n at

-- there is a best piece, and its ticket is not above that of this one
abbrev pub IsBehind : List Aside → Option ℕ → ℕ → Type 0
IsBehind aside None at = ⊥
IsBehind aside (Some best) at = (b x : Aside) → slice_get aside best ≡ Some b → slice_get aside at ≡ Some x → b.ticket ≤ x.ticket

-- there is no best piece, or the ticket of this one is not above its ticket
abbrev pub IsBefore : List Aside → Option ℕ → ℕ → Type 0
IsBefore aside None at = Unit {0}
IsBefore aside (Some best) at = (b x : Aside) → slice_get aside best ≡ Some b → slice_get aside at ≡ Some x → x.ticket ≤ b.ticket

-- the ending names this piece with its cause
abbrev pub IsStuckEnding : Instance → Part → Ending → Type 0
IsStuckEnding a d (ending.Verdict cert drawn) = ⊥
IsStuckEnding a d (ending.Overflow piece at) = (ticket : ℕ) × IsStuck a d (aside_of ticket piece (cause.Wide at))
IsStuckEnding a d (ending.PivotsSpent piece at) = (ticket : ℕ) × IsStuck a d (aside_of ticket piece (cause.Spent at))
IsStuckEnding a d (ending.PiecesSpent drawn left) = ⊥
IsStuckEnding a d ending.NoMemory = ⊥

abbrev pub ending_by : List Side → Cause → Ending
ending_by piece (cause.Wide at) = ending.Overflow piece at
ending_by piece (cause.Spent at) = ending.PivotsSpent piece at

-- the ending that names a piece set aside
abbrev pub ending_of : Aside → Ending
ending_of x = ending_by x.piece x.cause
