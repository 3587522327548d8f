-- What one worker answers.
use Rattle.std.specs.Prelude.{◌≡◌, ◌≤◌, ◌⊎◌, ◌^◌, ◌+◌, ℕ, List, length}
use Rattle.nogoods.specs.declared.choice.Side.{Side}
use Rattle.lpcc_case.specs.Instance.{Instance}
use Rattle.lpcc_case.specs.Verdicts.{IsTrueOf}
use Rattle.lpcc_case.specs.declared.verdict.Verdict.{Verdict}
use Rattle.cert_text.specs.declared.cert.Cert.{Cert}
use Rattle.cert_text.specs.Certs.{KeepsForm}
use Rattle.cert_check.specs.Acceptance.{Accepts, Claims}
use Rattle.orders.specs.Counts.{choose}
use Rattle.play.specs.declared.event.Event.{Event}
use Rattle.play.specs.declared.event.Options.{Options}
use Rattle.play.specs.declared.ending.Ending.{Ending}
use Rattle.play.specs.declared.ending.Ending.TheVariants as ending
use Rattle.cuts.specs.declared.reason.SpentAt.{SpentAt}
use Rattle.play.specs.declared.event.Aside.{Aside}
use Rattle.play.specs.declared.outcome.Cause.{Cause}
use Rattle.play.specs.declared.outcome.Cause.TheVariants as cause
use Rattle.play.specs.Points.{choices_of}
use Rattle.walks.specs.Ends.{IsSpentAt, IsWideAt}
use Rattle.play.specs.Steps.{drawn_in}
use Rattle.play.specs.Truth.{AreDistinct}
use Rattle.desk_part.specs.DeskParts.{EndingKeepsForm, IsEndingOf, IsEndingOfRecord}

-- the same options for one worker
abbrev pub alone : Options → Options
alone o = record o { workers = 1 }

-- the ending of a record; a verdict's certificate keeps the rules of its form
abbrev pub IsEnded : Instance → Options → Ending → Type 0
IsEnded a o end = IsEndingOfRecord a o end × EndingKeepsForm end

-- the ending of a record, or want of memory, which is free
abbrev pub IsSolved : Instance → Options → Ending → Type 0
IsSolved a o end = (end ≡ ending.NoMemory) ⊎ IsEndingOfRecord a o end

-- what a verdict says: the certificate keeps the rules of its form and is accepted, and what it claims is true;
-- so many pieces were drawn, each but once
pub record IsShown (a : Instance) (o : Options) (cert : Cert) (drawn : ℕ) : Type 0 where
  pub form : KeepsForm cert
  pub accepted : (w : Verdict) → Claims a cert w → Accepts a cert w
  pub truth : (w : Verdict) → Claims a cert w → IsTrueOf a w
  pub events : List Event
  pub ending : IsEndingOf a o events (ending.Verdict cert drawn)
  pub number : drawn ≡ length (drawn_in events)
  pub distinct : AreDistinct (drawn_in events)

abbrev pub VerdictsAreShown : Instance → Options → Ending → Type 0
VerdictsAreShown a o end = (cert : Cert) (drawn : ℕ) → end ≡ ending.Verdict cert drawn → IsShown a o cert drawn

-- as many draws as there are pieces are never spent
abbrev pub PiecesLast : Instance → Options → Ending → Type 0
PiecesLast a o end = 2 ^ length a.pairs ≤ o.pieces → (drawn : ℕ) (left : List Side) → end ≡ ending.PiecesSpent drawn left → ⊥

-- as many pivots as a stage has dictionaries are never spent
abbrev pub PivotsLast : Instance → Options → Ending → Type 0
PivotsLast a o end = choose (a.columns + length a.constraints) a.columns ≤ o.pivots → (piece : List Side) (at : SpentAt) → end ≡ ending.PivotsSpent piece at → ⊥

-- why a piece was set aside: the end of a walk of it
abbrev pub IsTrueCause : Instance → Options → List Side → Cause → Type 0
IsTrueCause a o piece (cause.Wide at) = IsWideAt a (choices_of piece) at
IsTrueCause a o piece (cause.Spent at) = IsSpentAt a (choices_of piece) o.pivots at

abbrev pub IsTrueAside : Instance → Options → Aside → Type 0
IsTrueAside a o x = IsTrueCause a o x.piece x.cause
