-- What a record asks of an outcome besides its row: true reasons, and true ends of walks.
use Rattle.std.specs.Prelude.{ℕ, List, Option}
use Rattle.nogoods.specs.declared.choice.Choice.{Choice}
use Rattle.lpcc_case.specs.Instance.{Instance}
use Rattle.lpcc_case.specs.declared.point.Point.{Point}
use Rattle.cuts.specs.Cuts.{no_good_of}
use Rattle.cuts.specs.declared.reason.Reason.{Reason}
use Rattle.walks.specs.Ends.{IsSpentAt, IsWideAt}
use Rattle.reasons.specs.Reasons.{AreReasons}
use Rattle.play.specs.declared.event.Ticket.{Ticket}
use Rattle.play.specs.declared.event.Options.{Options}
use Rattle.play.specs.declared.event.ShrinkMode.{ShrinkMode}
use Rattle.play.specs.declared.event.ShrinkMode.TheVariants.{Full, Off}
use Rattle.play.specs.declared.outcome.Outcome.{Outcome}
use Rattle.play.specs.declared.outcome.Outcome.TheVariants as outcome
use Rattle.play.specs.Points.{choices_of}

-- under `Full` each choice of the cut has a true reason, and under `Off` nothing is asked
abbrev pub AreReasonsIn : ShrinkMode → Instance → ℕ → Option Point → List Choice → List (Choice × Reason) → Type 0
AreReasonsIn Full a budget limit ng kept = AreReasons a budget limit ng kept
AreReasonsIn Off a budget limit ng kept = Unit {0}

-- a cut of the worker's own has its reasons; the end of a walk is one of the ticket's piece
abbrev pub IsTrueOutcome : Instance → Options → Ticket → Outcome → Type 0
IsTrueOutcome a o t (outcome.Cut c kept best) = AreReasonsIn o.shrink a o.pivots best (no_good_of c) kept
IsTrueOutcome a o t (outcome.Barred lane place c best) = Unit {0}
IsTrueOutcome a o t (outcome.Unbounded point ray) = Unit {0}
IsTrueOutcome a o t (outcome.Wide at) = IsWideAt a (choices_of t.piece) at
IsTrueOutcome a o t (outcome.Spent at) = IsSpentAt a (choices_of t.piece) o.pivots at
