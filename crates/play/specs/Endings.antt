-- The ending of a part and of its records.
use Rattle.std.specs.Prelude.{◌≡◌, ◌≤◌, ℕ, List, [], length, map, Some, None, Contains}
use Rattle.nogoods.specs.declared.choice.Side.{Side}
use Rattle.lpcc_case.specs.Instance.{Instance}
use Rattle.lpcc_case.specs.Pieces.{IsPiece}
use Rattle.search.specs.FirstPieces.{IsBarred, IsFirst}
use Rattle.play.specs.declared.event.Aside.{Aside}
use Rattle.play.specs.declared.event.Options.{Options}
use Rattle.play.specs.declared.event.VerdictKind.{VerdictKind}
use Rattle.play.specs.declared.ending.Ending.{Ending}
use Rattle.play.specs.declared.ending.Ending.TheVariants as ending
use Rattle.play.specs.declared.outcome.Cause.{Cause}
use Rattle.play.specs.declared.outcome.Cause.TheVariants as cause
use Rattle.play.specs.Parts.{Part, barring, piece_aside}
use Rattle.play.specs.Certificates.{IsCertOf}

-- nothing is in flight, and there is no verdict
pub record IsIdle (d : Part) : Type 0 where
  pub unconcluded : d.verdict ≡ None
  pub landed : d.flight ≡ []

abbrev pub IsUnbarred : Part → List Side → Type 0
IsUnbarred d piece = IsBarred (barring d) piece → ⊥

-- each piece that is not barred is set aside, and of those this has the lowest ticket
pub record IsStuck (a : Instance) (d : Part) (x : Aside) : Type 0 where
  pub idle : IsIdle d
  pub each : (p : List Side) → IsPiece a p → IsUnbarred d p → Contains (map piece_aside d.aside) p
  pub among : Contains d.aside x
  pub unbarred : IsUnbarred d x.piece
  pub lowest : (y : Aside) → Contains d.aside y → IsUnbarred d y.piece → x.ticket ≤ y.ticket

-- all pieces that may be drawn were, and a piece is neither barred nor set aside
pub record IsOut (a : Instance) (o : Options) (d : Part) (left : List Side) : Type 0 where
  pub idle : IsIdle d
  pub spent : d.drawn ≡ o.pieces
  pub first : IsFirst (length a.pairs) (barring d) (map piece_aside d.aside) left

abbrev pub aside_of : ℕ → List Side → Cause → Aside
aside_of ticket piece why = record { ticket = ticket; piece = piece; cause = why }

-- the row of the ending
abbrev pub IsEnding : Instance → Options → Part → Ending → Type 0
IsEnding a o d (ending.Verdict cert drawn) = (v : VerdictKind) × (d.verdict ≡ Some v) × IsCertOf d v cert × (drawn ≡ d.drawn)
IsEnding a o d (ending.Overflow piece at) = (ticket : ℕ) × IsStuck a d (aside_of ticket piece (cause.Wide at))
IsEnding a o d (ending.PivotsSpent piece at) = (ticket : ℕ) × IsStuck a d (aside_of ticket piece (cause.Spent at))
IsEnding a o d (ending.PiecesSpent drawn left) = (drawn ≡ d.drawn) × IsOut a o d left
IsEnding a o d ending.NoMemory = ⊥
