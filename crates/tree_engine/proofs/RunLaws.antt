-- Runs with one node more.
use Rattle.std.proofs.Common.{ℕ, ◌≡◌, refl, arith, List, [], ◌∷◌, ◌++◌, Option, None}
use Rattle.std.specs.Prelude.{Any}
use Rattle.nogoods.specs.declared.choice.Choice.{Choice}
use Rattle.lpcc_case.specs.Instance.{Instance}
use Rattle.lpcc_case.specs.declared.point.Point.{Point}
use Rattle.tree_engine.specs.declared.node.Node.{Node}
use Rattle.tree_engine.specs.Runs.{Follows, IsChild, IsFurther, IsNew, IsRun, best_behind, best_from}
use Rattle.tree_engine.proofs.Lists.{each_more}

best_last : (best : Option Point) (run : List Node) (n : Node) → best_from best (run ++ n ∷ []) ≡ n.best
best_last best [] n = refl
best_last best (m ∷ run) n = best_last m.best run n

pub behind_last : (run : List Node) (n : Node) → best_behind (run ++ n ∷ []) ≡ n.best
behind_last run n = best_last None run n

pub run_more : (a : Instance) (budget : ℕ) (run : List Node) (n : Node) → IsRun a budget run → Follows a budget run n → IsRun a budget (run ++ n ∷ [])
run_more a budget run n is follows = each_more (Follows a budget) run n is follows

pub further_by : (run : List Node) (path : List Choice) → IsNew path run → Any (IsChild path) run → IsFurther run path
further_by [] path new child = absurd (omega (arith, child.2))
further_by (n ∷ run) path new child = (new, child)
