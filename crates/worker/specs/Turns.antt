-- A worker's turn: what holds when it has drawn a piece, and when it may settle it.
use Rattle.std.specs.Prelude.{◌≡◌, ◌<◌, ◌≤◌, ◌⊎◌, ◌++◌, ◌∷◌, [], ℕ, List, length}
use Rattle.lpcc_case.specs.Instance.{Instance}
use Rattle.lpcc_case.specs.Pieces.{IsPiece}
use Rattle.cuts.specs.Cuts.{Passes}
use Rattle.cut_pool.specs.Lanes.{given}
use Rattle.cut_pool.specs.Reaches.{ReachView, lane_at}
use Rattle.play.specs.Lawful.{MaySettle, OutcomeFits}
use Rattle.play.specs.Causes.{IsTrueOutcome}
use Rattle.play.specs.declared.event.Options.{Options}
use Rattle.play.specs.declared.event.Ticket.{Ticket}
use Rattle.play.specs.declared.outcome.Outcome.{Outcome}
use Rattle.play.specs.declared.outcome.Outcome.TheVariants as outcome
use Rattle.desk.specs.Desks.{DeskView, HasEnding, IsLeft}
use Rattle.desk.specs.Settling.{IsFromReach}
use Rattle.worker.specs.declared.locked.Turn.{Turn}
use Rattle.worker.specs.declared.locked.Turn.TheVariants as turn

-- the reach is this worker's, for the case and with a lane for each worker
pub record IsReachOf (a : Instance) (o : Options) (worker : ℕ) (r : ReachView) : Type 0 where
  pub number : r.worker ≡ worker
  pub case : r.case ≡ a
  pub lanes : length r.lanes ≡ o.workers

-- a reach that was readied: there is room for a publication, and nothing was given since
pub record IsReady (r : ReachView) : Type 0 where
  pub room : 1 ≤ r.spare
  pub marks : (k : ℕ) → k < length r.lanes → (lane_at r k).at_ready ≡ length (given (lane_at r k))

-- the worker was given a piece, and its reach is ready
pub record IsDrawn (a : Instance) (by : ℕ) (r : ReachView) (t : Ticket) : Type 0 where
  pub worker : t.worker ≡ by
  pub piece : IsPiece a t.piece
  pub ready : IsReady r

-- what the desk gave: a piece, nothing for now, or nothing any more, and then it has an ending or was left
abbrev pub Takes : Instance → ℕ → ReachView → DeskView → Turn → Type 0
Takes a worker r d (turn.Piece t) = IsDrawn a worker r t
Takes a worker r d turn.Pause = Unit {0}
Takes a worker r d turn.Over = HasEnding d ⊎ IsLeft d

-- the ticket may be settled in this way, with what the reach was given
pub record MaySettleBy (a : Instance) (o : Options) (t : Ticket) (r : ReachView) (what : Outcome) : Type 0 where
  pub fits : OutcomeFits a o.workers what
  pub may : MaySettle a t what
  pub truth : IsTrueOutcome a o t what
  pub reach : IsFromReach r t.piece what

-- an outcome of the worker's own, not by another worker's cut
abbrev pub IsOwn : Outcome → Type 0
IsOwn (outcome.Cut c kept best) = Unit {0}
IsOwn (outcome.Barred lane place c best) = ⊥
IsOwn (outcome.Unbounded point ray) = Unit {0}
IsOwn (outcome.Wide at) = Unit {0}
IsOwn (outcome.Spent at) = Unit {0}

-- the outcome is by a cut of the worker's own
abbrev pub HasOwnCut : Outcome → Type 0
HasOwnCut (outcome.Cut c kept best) = Unit {0}
HasOwnCut (outcome.Barred lane place c best) = ⊥
HasOwnCut (outcome.Unbounded point ray) = ⊥
HasOwnCut (outcome.Wide at) = ⊥
HasOwnCut (outcome.Spent at) = ⊥

-- the cut of an outcome, if it has one, passes the test
abbrev pub CutPasses : Instance → Outcome → Type 0
CutPasses a (outcome.Cut c kept best) = Passes a c
CutPasses a (outcome.Barred lane place c best) = Passes a c
CutPasses a (outcome.Unbounded point ray) = Unit {0}
CutPasses a (outcome.Wide at) = Unit {0}
CutPasses a (outcome.Spent at) = Unit {0}

-- these words were published
abbrev pub Publishes : List ℕ → ReachView → ReachView → Type 0
Publishes words before after = after.published ≡ before.published ++ words ∷ []

-- the reach is the same but for what was published
pub record IsSameBut (before after : ReachView) : Type 0 where
  pub worker : after.worker ≡ before.worker
  pub case : after.case ≡ before.case
  pub lanes : after.lanes ≡ before.lanes
