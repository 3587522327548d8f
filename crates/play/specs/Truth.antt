-- What holds of the desk part wherever lawful events lead.
use Rattle.std.specs.Prelude.{◌≡◌, ◌≢◌, ◌<◌, ◌⊎◌, ℕ, All, Contains, List, [], ◌∷◌, length, Option, Some}
use Rattle.nogoods.specs.declared.choice.Choice.{Choice}
use Rattle.nogoods.specs.declared.choice.Side.{Side}
use Rattle.lpcc_case.specs.Instance.{Instance}
use Rattle.lpcc_case.specs.Pieces.{IsPiece, NamesPairs}
use Rattle.lpcc_case.specs.declared.point.Point.{Point}
use Rattle.cuts.specs.declared.cut.Cut.{Cut}
use Rattle.cuts.specs.Cuts.{Passes}
use Rattle.derivation.specs.declared.step.Step.{Step}
use Rattle.derivation.specs.declared.step.Step.TheVariants.{Start, Derived}
use Rattle.derivation.specs.Logs.{IsLog, no_goods}
use Rattle.search.specs.FirstPieces.{IsBarred}
use Rattle.lpcc_case.specs.Values.{IsValue}
use Rattle.lpcc_case.specs.declared.verdict.Verdict.{Verdict}
use Rattle.lpcc_case.specs.declared.verdict.Verdict.TheVariants.{Optimal, Infeasible, Unbounded}
use Rattle.play.specs.declared.event.VerdictKind.{VerdictKind}
use Rattle.play.specs.declared.event.VerdictKind.TheVariants as kind
use Rattle.play.specs.declared.event.Ticket.{Ticket}
use Rattle.play.specs.declared.event.Aside.{Aside}
use Rattle.play.specs.Parts.{Part, barring, taken}
use Rattle.reasons.specs.Reasons.{IsActiveAgainst}
use Rattle.play.specs.Points.{IsBest, IsKept}
use Rattle.play.specs.Lawful.{IsOpen, MayConclude}

-- the no-goods of the starting steps
abbrev pub starts_of : List Step → List (List Choice)
starts_of [] = []
starts_of (Start ng ∷ log) = ng ∷ starts_of log
starts_of (Derived ng hints ∷ log) = starts_of log

abbrev pub IsSoundCut : Instance → Option Point → Cut → Type 0
IsSoundCut a best c = Passes a c × IsActiveAgainst c best

-- the piece is with a worker, set aside or barred
abbrev pub IsAccounted : Part → List Side → Type 0
IsAccounted d piece = Contains (taken d) piece ⊎ IsBarred (barring d) piece

-- what the verdict needs, once there is one
abbrev pub IsConcluded : Part → Type 0
IsConcluded d = (v : VerdictKind) → d.verdict ≡ Some v → MayConclude d v

-- true to its best point, these pieces having been drawn
pub record IsTrueToBest (a : Instance) (drawn : List (List Side)) (d : Part) : Type 0 where
  pub cuts : All (IsSoundCut a d.best) d.absorbed
  pub best : IsBest a d.best
  pub unbounded : IsKept a d.unbounded
  pub log : IsLog d.log
  pub starts : starts_of d.log ≡ barring d
  pub named : All (NamesPairs a) (no_goods d.log)
  pub drawn_pieces : IsOpen d → All (IsAccounted d) drawn
  pub concluded : IsConcluded d

-- the verdict with its value, where it has one
abbrev pub Says : Instance → Part → VerdictKind → Verdict → Type 0
Says a d kind.Optimal (Optimal value) = (q : Point) × (d.best ≡ Some q) × IsValue a q.z q.d value
Says a d kind.Optimal Infeasible = ⊥
Says a d kind.Optimal Unbounded = ⊥
Says a d kind.Infeasible (Optimal value) = ⊥
Says a d kind.Infeasible Infeasible = Unit {0}
Says a d kind.Infeasible Unbounded = ⊥
Says a d kind.Unbounded (Optimal value) = ⊥
Says a d kind.Unbounded Infeasible = ⊥
Says a d kind.Unbounded Unbounded = Unit {0}

-- no piece stands twice
abbrev pub AreDistinct : List (List Side) → Type 0
AreDistinct [] = Unit {0}
AreDistinct (p ∷ ps) = (Contains ps p → ⊥) × AreDistinct ps

-- besides, of the pieces that were drawn
pub record IsStanding (a : Instance) (drawn : List (List Side)) (d : Part) : Type 0 where
  pub truth : IsTrueToBest a drawn d
  pub distinct : AreDistinct drawn
  pub sizes : All (IsPiece a) drawn
  pub count : d.drawn ≡ length drawn

-- no number stands twice
abbrev pub AreApart : {T : Type 0} → (T → ℕ) → List T → Type 0
AreApart f [] = Unit {0}
AreApart f (x ∷ xs) = All (λ y. f y ≢ f x) xs × AreApart f xs

abbrev pub number_of : Ticket → ℕ
number_of t = t.number

abbrev pub ticket_of : Aside → ℕ
ticket_of x = x.ticket

-- no ticket stands twice
pub record IsOrderly (d : Part) : Type 0 where
  pub flying : All (λ t. t.number < d.drawn) d.flight
  pub lying : All (λ x. x.ticket < d.drawn) d.aside
  pub flight : AreApart number_of d.flight
  pub aside : AreApart ticket_of d.aside
  pub both : All (λ t. All (λ x. x.ticket ≢ t.number) d.aside) d.flight
