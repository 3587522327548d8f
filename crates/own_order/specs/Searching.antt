-- What a search over the pairs has found.
use Rattle.std.specs.Prelude.{◌≡◌, List, [], ◌∷◌, ◌++◌, All, Option, Some, None}
use Rattle.nogoods.specs.declared.choice.Side.{Side}
use Rattle.nogoods.specs.Pieces.{Bars}
use Rattle.lpcc_case.specs.Instance.{Instance}
use Rattle.lpcc_case.specs.declared.point.Point.{Point}
use Rattle.cuts.specs.declared.cut.Cut.{Cut}
use Rattle.cuts.specs.Cuts.{Passes, no_good_of}
use Rattle.reasons.specs.Reasons.{IsActiveAgainst}
use Rattle.play.specs.Points.{IsBest, IsCandidate}
use Rattle.own_order.specs.declared.node.Node.{Node}
use Rattle.own_order.specs.declared.node.Node.TheVariants as node

pub record Found : Type 0 where
  pub best : Option Point
  pub cuts : List Cut

abbrev pub nothing : Found
nothing = record { best = None; cuts = [] }

abbrev pub with_cut : Found → Cut → Found
with_cut f c = record f { cuts = f.cuts ++ c ∷ [] }

abbrev pub with_best : Found → Point → Found
with_best f q = record f { best = Some q }

-- the best point is feasible, and each cut passes
pub record IsTrueOf (a : Instance) (f : Found) : Type 0 where
  pub best : IsBest a f.best
  pub cuts : All (Passes a) f.cuts

-- the cuts that were there come first
abbrev pub Keeps : Found → Found → Type 0
Keeps old new = (more : List Cut) × (new.cuts ≡ old.cuts ++ more)

-- the cut bars the piece and is active against the limit
pub record IsAgainst (piece : List Side) (limit : Option Point) (c : Cut) : Type 0 where
  pub bars : Bars (no_good_of c) piece
  pub active : IsActiveAgainst c limit

-- a cut or a point by which nothing, or something, is lower than the limit
abbrev pub IsNode : Instance → Option Point → Node → Type 0
IsNode a limit (node.Cut c) = Passes a c × IsActiveAgainst c limit
IsNode a limit (node.Optimum q c) = IsCandidate a q × Passes a c × IsActiveAgainst c (Some q)
IsNode a limit (node.Lower q) = IsCandidate a q
IsNode a limit (node.Decide c) = Unit {0}
IsNode a limit (node.Guess c) = Unit {0}
IsNode a limit node.Stuck = Unit {0}
