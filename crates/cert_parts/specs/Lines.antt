-- The no-good lines of a log whose starting steps are the no-goods of cuts, and what lines rest on.
use Rattle.std.specs.Prelude.{◌≡◌, ℕ, ℤ, All, true, List, [], ◌∷◌, Option, Some, length, map, slice_get, slice_index_or, take}
use Rattle.nogoods.specs.declared.choice.Choice.{Choice}
use Rattle.lpcc_case.specs.Instance.{Instance}
use Rattle.lpcc_case.specs.Pieces.{NamesPairs}
use Rattle.lpcc_case.specs.declared.point.Point.{Point}
use Rattle.cuts.specs.declared.cut.Cut.{Cut}
use Rattle.cuts.specs.declared.cut.Cut.TheVariants as cut
use Rattle.cuts.specs.Cuts as cuts
use Rattle.cuts.specs.Cuts.{Passes}
use Rattle.reasons.specs.Reasons.{IsActiveAgainst}
use Rattle.derivation.specs.declared.step.Step.{Step}
use Rattle.derivation.specs.declared.step.Step.TheVariants.{Start, Derived}
use Rattle.derivation.specs.Logs.{IsLog, no_goods}
use Rattle.trimming.specs.Trimmed.{AreReached, place_of, step_at}
use Rattle.cert_text.specs.Certs.{no_good_of}
use Rattle.cert_text.specs.declared.cert.CertLine.{CertLine}
use Rattle.cert_text.specs.declared.cert.CertLine.TheVariants as line
use Rattle.cert_check.specs.Acceptance.{EndsEmpty, HintsPass}

-- ---- the lines of a log

-- the no-goods of the starting steps
abbrev pub starts_of : List Step → List (List Choice)
starts_of [] = []
starts_of (Start ng ∷ log) = ng ∷ starts_of log
starts_of (Derived ng hints ∷ log) = starts_of log

abbrev pub line_of_cut : Cut → CertLine
line_of_cut (cut.Ray ng mult) = line.Ray ng mult
line_of_cut (cut.Point ng mult e v) = line.Point ng e mult

-- the cut whose start is step k
abbrev pub cut_at : List Cut → List Step → ℕ → Cut
cut_at known log k = slice_index_or known (length (starts_of (take k log))) (cut.Ray [] [])

abbrev pub line_of : Cut → List ℕ → Step → CertLine
line_of c places (Start ng) = line_of_cut c
line_of c places (Derived ng hints) = line.Derived ng (map (place_of places) hints)

abbrev pub line_at : List Cut → List Step → List ℕ → ℕ → CertLine
line_at known log places k = line_of (cut_at known log k) places (step_at log k)

-- the steps that the first empty step reaches, in their order, with their cuts and the hints numbered anew
pub record AreTrimmedLines (known : List Cut) (log : List Step) (lines : List CertLine) : Type 0 where
  pub places : List ℕ
  pub kept : AreReached log places
  pub made : lines ≡ map (line_at known log places) places

-- ---- what lines rest on

-- a cut that passes and is active against the best point
abbrev pub IsSoundCut : Instance → Option Point → Cut → Type 0
IsSoundCut a best c = Passes a c × IsActiveAgainst c best

-- the starting steps of the log are the no-goods of sound cuts, in their order
pub record IsSoundLog (a : Instance) (best : Option Point) (known : List Cut) (log : List Step) : Type 0 where
  pub sound : All (IsSoundCut a best) known
  pub starts : starts_of log ≡ map cuts.no_good_of known
  pub is_log : IsLog log
  pub named : All (NamesPairs a) (no_goods log)

-- a sound cut, or a no-good that follows from those of earlier lines
abbrev pub IsBacked : Instance → Option Point → List (List Choice) → CertLine → Type 0
IsBacked a best earlier (line.Ray ng mult) = IsSoundCut a best (cut.Ray ng mult)
IsBacked a best earlier (line.Point ng e mult) = (v : ℤ) × IsSoundCut a best (cut.Point ng mult e v)
IsBacked a best earlier (line.Derived ng hints) = HintsPass a earlier ng hints

-- each line is backed over the no-goods of those before it, and the last one is without choices
pub record AreBacked (a : Instance) (best : Option Point) (lines : List CertLine) : Type 0 where
  pub each : (k : ℕ) (l : CertLine) → slice_get lines k ≡ Some l → IsBacked a best (map no_good_of (take k lines)) l
  pub ends : EndsEmpty lines
