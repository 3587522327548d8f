-- Which events are lawful.
use Rattle.std.specs.Prelude.{◌≡◌, ◌≢◌, ◌<◌, ◌^◌, ◌-◌, ℕ, true, All, Contains, List, [], length, Option, Some, None, slice_get, slice_index_or}
use Rattle.nogoods.specs.declared.choice.Choice.{Choice}
use Rattle.nogoods.specs.declared.choice.Side.{Side}
use Rattle.nogoods.specs.Pieces.{Bars}
use Rattle.lpcc_case.specs.Instance.{Instance}
use Rattle.lpcc_case.specs.Pieces.{IsPiece, NamesPairs}
use Rattle.lpcc_case.specs.NarrowPoints.{AreNumbersOf, IsPointOf}
use Rattle.lpcc_case.specs.declared.point.Point.{Point}
use Rattle.cuts.specs.declared.cut.Cut.{Cut}
use Rattle.cuts.specs.Cuts.{Passes, no_good_of}
use Rattle.derivation.specs.HintRuns.{closes}
use Rattle.derivation.specs.Logs.{no_goods}
use Rattle.search.specs.FirstPieces.{IsBarred}
use Rattle.play.specs.declared.event.Event.{Event}
use Rattle.play.specs.declared.event.Event.TheVariants.{Publish, Read, Offer, Draw, Absorb, Learn, Settle, Conclude}
use Rattle.play.specs.declared.event.Ticket.{Ticket}
use Rattle.play.specs.declared.event.VerdictKind.{VerdictKind}
use Rattle.play.specs.declared.event.VerdictKind.TheVariants as kind
use Rattle.play.specs.declared.outcome.Outcome.{Outcome}
use Rattle.play.specs.declared.outcome.Outcome.TheVariants as outcome
use Rattle.cuts.specs.declared.reason.Reason.{Reason}
use Rattle.cuts.specs.declared.reason.Reason.TheVariants as reason
use Rattle.play.specs.Parts.{Part, Outer, Machine, flight_of, barring, taken}
use Rattle.reasons.specs.Reasons.{IsActiveAgainst}
use Rattle.play.specs.Points.{IsBest, IsDirection, direction}

-- ---- the parts of an event fit the instance and the number of workers

abbrev pub PointFits : Instance → Option Point → Type 0
PointFits a None = Unit {0}
PointFits a (Some q) = IsPointOf a q

abbrev pub ReasonFits : Instance → Reason → Type 0
ReasonFits a (reason.Below q) = IsPointOf a q
ReasonFits a (reason.Unbounded q ray) = IsPointOf a q × AreNumbersOf a ray.r
ReasonFits a (reason.Wide at) = Unit {0}
ReasonFits a (reason.Spent at) = Unit {0}

abbrev pub KeptFits : Instance → Choice × Reason → Type 0
KeptFits a k = (k.0.pair < length a.pairs) × ReasonFits a k.1

abbrev pub OutcomeFits : Instance → ℕ → Outcome → Type 0
OutcomeFits a n (outcome.Cut c kept best) = NamesPairs a (no_good_of c) × All (KeptFits a) kept × PointFits a best
OutcomeFits a n (outcome.Barred lane place c best) = (lane < n) × NamesPairs a (no_good_of c) × PointFits a best
OutcomeFits a n (outcome.Unbounded point ray) = IsPointOf a point × AreNumbersOf a ray.r
OutcomeFits a n (outcome.Wide at) = Unit {0}
OutcomeFits a n (outcome.Spent at) = Unit {0}

abbrev pub Fits : Instance → ℕ → Event → Type 0
Fits a n (Publish lane c) = (lane < n) × NamesPairs a (no_good_of c)
Fits a n (Read worker lane place) = (worker < n) × (lane < n)
Fits a n (Offer worker point) = (worker < n) × PointFits a point
Fits a n (Draw worker number piece) = (worker < n) × IsPiece a piece
Fits a n (Absorb c) = NamesPairs a (no_good_of c)
Fits a n (Learn ng hints) = NamesPairs a ng
Fits a n (Settle worker number what) = (worker < n) × OutcomeFits a n what
Fits a n (Conclude verdict) = Unit {0}

-- ---- the rows, on the desk part

abbrev pub IsOpen : Part → Type 0
IsOpen d = (d.verdict ≡ None) × (d.unbounded ≡ None)

-- the worker has no ticket in flight
abbrev pub IsFree : ℕ → List Ticket → Type 0
IsFree worker flight = All (λ t. t.worker ≢ worker) flight

pub record MayDraw (d : Part) (worker number : ℕ) (piece : List Side) : Type 0 where
  pub opened : IsOpen d
  pub free : IsFree worker d.flight
  pub ticket : number ≡ d.drawn
  pub room : number < 2 ^ 64 - 1
  pub unbarred : IsBarred (barring d) piece → ⊥
  pub fresh : Contains (taken d) piece → ⊥

-- the cut passes its test and bars the piece, and is active against the point
pub record MayCut (a : Instance) (piece : List Side) (c : Cut) (best : Option Point) : Type 0 where
  pub passes : Passes a c
  pub bars : Bars (no_good_of c) piece
  pub candidate : IsBest a best
  pub active : IsActiveAgainst c best

abbrev pub MaySettle : Instance → Ticket → Outcome → Type 0
MaySettle a t (outcome.Cut c kept best) = MayCut a t.piece c best
MaySettle a t (outcome.Barred lane place c best) = MayCut a t.piece c best
MaySettle a t (outcome.Unbounded point ray) = IsDirection a (direction t.piece point ray)
MaySettle a t (outcome.Wide at) = Unit {0}
MaySettle a t (outcome.Spent at) = Unit {0}

abbrev pub MayConclude : Part → VerdictKind → Type 0
MayConclude d kind.Optimal = Contains (no_goods d.log) [] × (d.best ≢ None)
MayConclude d kind.Infeasible = Contains (no_goods d.log) [] × (d.best ≡ None)
MayConclude d kind.Unbounded = d.unbounded ≢ None

-- the row of an event, without what lanes hold and what workers have read
abbrev pub Row : Instance → Part → Event → Type 0
Row a d (Publish lane c) = Passes a c
Row a d (Read worker lane place) = Unit {0}
Row a d (Offer worker point) = IsBest a point
Row a d (Draw worker number piece) = MayDraw d worker number piece
Row a d (Absorb c) = (d.verdict ≡ None) × Passes a c × IsActiveAgainst c d.best
Row a d (Learn ng hints) = (d.verdict ≡ None) × (closes (no_goods d.log) ng hints ≡ true)
Row a d (Settle worker number what) = (t : Ticket) × (flight_of number d.flight ≡ Some t) × (t.worker ≡ worker) × (d.verdict ≡ None → MaySettle a t what)
Row a d (Conclude verdict) = (d.verdict ≡ None) × MayConclude d verdict

-- lawful on the desk part, with n workers
pub record IsLawfulOnDesk (a : Instance) (n : ℕ) (d : Part) (x : Event) : Type 0 where
  pub fits : Fits a n x
  pub row : Row a d x

-- ---- the whole machine

abbrev pub lane_at : Outer → ℕ → List Cut
lane_at o lane = slice_index_or o.lanes lane []

abbrev pub read_by : Outer → ℕ → ℕ → ℕ
read_by o worker lane = slice_index_or (slice_index_or o.read worker []) lane 0

abbrev pub MayTake : Outer → ℕ → Outcome → Type 0
MayTake o worker (outcome.Cut c kept best) = Unit {0}
MayTake o worker (outcome.Barred lane place c best) = (lane ≢ worker) × (slice_get (lane_at o lane) place ≡ Some c) × (place < read_by o worker lane)
MayTake o worker (outcome.Unbounded point ray) = Unit {0}
MayTake o worker (outcome.Wide at) = Unit {0}
MayTake o worker (outcome.Spent at) = Unit {0}

abbrev pub OuterRow : Machine → Event → Type 0
OuterRow m (Publish lane c) = Unit {0}
OuterRow m (Read worker lane place) = (place ≡ read_by m.outer worker lane) × (place < length (lane_at m.outer lane))
OuterRow m (Offer worker point) = Unit {0}
OuterRow m (Draw worker number piece) = Unit {0}
OuterRow m (Absorb c) = Unit {0}
OuterRow m (Learn ng hints) = Unit {0}
OuterRow m (Settle worker number what) = m.part.verdict ≡ None → MayTake m.outer worker what
OuterRow m (Conclude verdict) = Unit {0}

pub record IsLawful (a : Instance) (n : ℕ) (m : Machine) (x : Event) : Type 0 where
  pub desk : IsLawfulOnDesk a n m.part x
  pub outer : OuterRow m x
