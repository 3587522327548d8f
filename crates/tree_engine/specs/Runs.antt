-- Runs: the nodes that were solved and became a leaf or were split, in their order.
use Rattle.std.specs.Prelude.{◌≡◌, ◌≢◌, ◌⊎◌, ℕ, List, [], ◌∷◌, All, Any, Option, Some, None, slice_get, take}
use Rattle.nogoods.specs.declared.choice.Choice.{Choice}
use Rattle.nogoods.specs.declared.choice.Side.{Side}
use Rattle.lpcc_case.specs.Instance.{Instance}
use Rattle.lpcc_case.specs.declared.point.Point.{Point}
use Rattle.reasons.specs.Reasons.{IsUnder}
use Rattle.lex_simplex.specs.declared.answer.LpAnswer.{LpAnswer}
use Rattle.lex_simplex.specs.declared.answer.LpAnswer.TheVariants.{Infeasible, Optimum, Unbounded, Wide, Spent}
use Rattle.lex_simplex.specs.Answers.{IsAnswer}
use Rattle.tree_engine.specs.declared.node.Node.{Node}
use Rattle.tree_engine.specs.declared.node.NodeEnd.{NodeEnd}
use Rattle.tree_engine.specs.declared.node.NodeEnd.TheVariants as end
use Rattle.tree_engine.specs.Bests.{IsCandidate}
use Rattle.tree_engine.specs.Paths.{IsFirstFree, IsFirstLoose, choice_of, with_choice}
use Rattle.tree_engine.specs.Trees.{IsLeafCut}

-- the best point behind these nodes, where it was `best` before them
abbrev pub best_from : Option Point → List Node → Option Point
best_from best [] = best
best_from best (n ∷ run) = best_from n.best run

-- at first there is none
abbrev pub best_behind : List Node → Option Point
best_behind run = best_from None run

abbrev pub IsSide : List Choice → List Choice → NodeEnd → Type 0
IsSide path above (end.Leaf cut) = ⊥
IsSide path above (end.Split pair answer) = (side : Side) × (path ≡ with_choice (choice_of pair side) above)

-- the node was split, and the path is its own with one side of its pair more
abbrev pub IsChild : List Choice → Node → Type 0
IsChild path n = IsSide path n.path n.end

abbrev pub IsNew : List Choice → List Node → Type 0
IsNew path run = All (λ n. n.path ≢ path) run

-- a path that could come next
abbrev pub IsFurther : List Node → List Choice → Type 0
IsFurther [] path = path ≡ []
IsFurther (n ∷ run) path = IsNew path (n ∷ run) × Any (IsChild path) (n ∷ run)

-- the same best point, or a feasible one that is lower than it, where there was one
abbrev pub FallsTo : Instance → Option Point → Option Point → Type 0
FallsTo a old None = old ≡ None
FallsTo a old (Some q) = (old ≡ Some q) ⊎ (IsCandidate a q × IsUnder q old)

-- at this pair a node is split whose program has this answer: it is not infeasible, and an optimum is lower than the best point
abbrev pub IsSplitAt : Instance → ℕ → Option Point → List Choice → ℕ → LpAnswer → Type 0
IsSplitAt a budget best path pair (Infeasible cut) = ⊥
IsSplitAt a budget best path pair (Optimum q cut) = IsAnswer a path budget (Optimum q cut) × IsUnder q best × IsFirstLoose a q pair
IsSplitAt a budget best path pair (Unbounded q ray) = IsAnswer a path budget (Unbounded q ray) × IsFirstFree a path pair
IsSplitAt a budget best path pair (Wide at) = IsAnswer a path budget (Wide at) × IsFirstFree a path pair
IsSplitAt a budget best path pair (Spent at) = IsAnswer a path budget (Spent at) × IsFirstFree a path pair

-- how a node ends, where this was the best point before it
abbrev pub EndsAs : Instance → ℕ → Option Point → List Choice → Option Point → NodeEnd → Type 0
EndsAs a budget old path best (end.Leaf cut) = FallsTo a old best × IsLeafCut a best path cut
EndsAs a budget old path best (end.Split pair answer) = (best ≡ old) × IsSplitAt a budget best path pair answer

-- the node may follow these
pub record Follows (a : Instance) (budget : ℕ) (earlier : List Node) (n : Node) : Type 0 where
  pub further : IsFurther earlier n.path
  pub ends : EndsAs a budget (best_behind earlier) n.path n.best n.end

-- each node may follow those before it; a stage of a solve may make `budget` pivots
abbrev pub IsRun : Instance → ℕ → List Node → Type 0
IsRun a budget run = (k : ℕ) (n : Node) → slice_get run k ≡ Some n → Follows a budget (take k run) n
