-- How a run goes on at a node and below it. A state is told by its nodes and its best point.
use Rattle.std.specs.Prelude.{◌≡◌, ◌≤◌, ◌<◌, ◌+◌, ◌-◌, ◌^◌, ℕ, List, [], ◌∷◌, ◌++◌, All, Contains, IsTrue, Option, length}
use Rattle.nogoods.specs.declared.choice.Choice.{Choice}
use Rattle.nogoods.specs.Choices.{pairs_ascend}
use Rattle.lpcc_case.specs.Instance.{Instance}
use Rattle.lpcc_case.specs.declared.point.Point.{Point}
use Rattle.lpcc_case.specs.Pieces.{NamesPairs}
use Rattle.cuts.specs.declared.cut.Cut.{Cut}
use Rattle.cuts.specs.Cuts.{Passes}
use Rattle.reasons.specs.Reasons.{IsActiveAgainst}
use Rattle.walks.specs.Ends.{IsSpentAt, IsWideAt}
use Rattle.lex_simplex.specs.declared.answer.LpAnswer.{LpAnswer}
use Rattle.tree_engine.specs.declared.node.Node.{Node}
use Rattle.tree_engine.specs.declared.node.NodeEnd.{NodeEnd}
use Rattle.tree_engine.specs.declared.node.NodeEnd.TheVariants as end
use Rattle.tree_engine.specs.declared.tree.Tree.{Tree}
use Rattle.tree_engine.specs.declared.tree.Tree.TheVariants as tree
use Rattle.tree_engine.specs.declared.answer.BranchOptions.{BranchOptions}
use Rattle.tree_engine.specs.declared.stop.Stop.{Stop}
use Rattle.tree_engine.specs.declared.stop.Stop.TheVariants as stop
use Rattle.tree_engine.specs.declared.turn.Turn.{Turn}
use Rattle.tree_engine.specs.declared.turn.Turn.TheVariants as turn
use Rattle.tree_engine.specs.declared.closing.Closing.{Closing}
use Rattle.tree_engine.specs.declared.closing.Closing.TheVariants as closing
use Rattle.tree_engine.specs.Answers.{IsDirection, RunsOut, StopsAt}
use Rattle.tree_engine.specs.Bests.{IsBest}
use Rattle.tree_engine.specs.Paths.{IsFree, first_side}
use Rattle.tree_engine.specs.Runs.{IsFurther, IsRun, best_behind}
use Rattle.tree_engine.specs.Trees.{Holds, IsLeafCut, size}

-- a run of at most so many nodes as may be, and the best point behind them
pub record IsState (a : Instance) (o : BranchOptions) (run : List Node) (best : Option Point) : Type 0 where
  pub is_run : IsRun a o.pivots run
  pub behind : best ≡ best_behind run
  pub is_best : IsBest a best
  pub few : length run ≤ o.nodes

abbrev pub node_at : List Choice → Option Point → NodeEnd → Node
node_at path best end = record { path = path; best = best; end = end }

-- the node is at this path or below it
pub record IsBelow (path : List Choice) (n : Node) : Type 0 where
  pub ascending : IsTrue (pairs_ascend n.path)
  pub choices : All (Contains n.path) path

-- no node of the run is at the path or below it
abbrev pub IsUnvisited : List Choice → List Node → Type 0
IsUnvisited path run = All (λ n. All (Contains n.path) path → ⊥) run

-- the most nodes at a path of so many choices and below it, and one
abbrev pub most_below : Instance → ℕ → ℕ
most_below a depth = 2 ^ ((length a.pairs - depth) + 1)

-- the node of this path may be next, and there is room for all below it in a whole tree
pub record MayClose (a : Instance) (o : BranchOptions) (path : List Choice) (run : List Node) (best : Option Point) : Type 0 where
  pub is_state : IsState a o run best
  pub ascending : IsTrue (pairs_ascend path)
  pub named : NamesPairs a path
  pub further : IsFurther run path
  pub unvisited : IsUnvisited path run
  pub room : length run + most_below a (length path) ≤ most_below a 0

-- what passes and is active against the old best point is active against the new one
abbrev pub KeepsActive : Instance → Option Point → Option Point → Type 0
KeepsActive a old new = (cut : Cut) → Passes a cut → IsActiveAgainst cut old → IsActiveAgainst cut new

-- nodes at the path and below it came behind those of the old run, and the best point did not rise
pub record Grows (a : Instance) (o : BranchOptions) (path : List Choice) (old : List Node) (best : Option Point) (run : List Node) (now : Option Point) : Type 0 where
  pub is_state : IsState a o run now
  pub more : List Node
  pub joined : run ≡ old ++ more
  pub below : All (IsBelow path) more
  pub keeps : KeepsActive a best now

-- besides, the tree holds at the path, and those nodes are its
pub record Closes (a : Instance) (o : BranchOptions) (path : List Choice) (old : List Node) (best : Option Point) (run : List Node) (now : Option Point) (t : Tree) : Type 0 where
  pub grows : Grows a o path old best run now
  pub holds : Holds a now path t
  pub counted : length run ≡ length old + size t
  pub few : size t + 1 ≤ most_below a (length path)

-- Why the run stops. As many nodes as may be come only where these are fewer than those of a whole tree.
abbrev pub Stops : Instance → BranchOptions → List Node → Stop → Type 0
Stops a o run (stop.Unbounded piece point ray) = IsDirection a piece point ray
Stops a o run (stop.Wide piece at) = StopsAt a o.pivots run piece (λ choices. IsWideAt a choices at)
Stops a o run (stop.Spent piece at) = StopsAt a o.pivots run piece (λ choices. IsSpentAt a choices o.pivots at)
Stops a o run (stop.Nodes left) = RunsOut a o (length run) left run × (length run + 1 < most_below a 0)

-- ---- one node

-- the node of the path came as a leaf with this cut
abbrev pub IsLeaf : Instance → List Choice → List Node → List Node → Option Point → Turn → Type 0
IsLeaf a path old run now (turn.Leaf cut) = (run ≡ old ++ node_at path now (end.Leaf cut) ∷ []) × IsLeafCut a now path cut
IsLeaf a path old run now (turn.Split pair) = ⊥
IsLeaf a path old run now (turn.Stop why) = ⊥

-- the node of the path came and was split
pub record IsSplit (a : Instance) (o : BranchOptions) (path : List Choice) (pair : ℕ) (old : List Node) (best : Option Point) (run : List Node) (now : Option Point) : Type 0 where
  pub may : MayClose a o path old best
  pub is_state : IsState a o run now
  pub answer : LpAnswer
  pub joined : run ≡ old ++ node_at path now (end.Split pair answer) ∷ []
  pub same : now ≡ best
  pub free : IsFree a path pair

abbrev pub IsTurn : Instance → BranchOptions → List Choice → List Node → Option Point → List Node → Option Point → Turn → Type 0
IsTurn a o path old best run now (turn.Leaf cut) = Closes a o path old best run now (tree.Leaf cut)
IsTurn a o path old best run now (turn.Split pair) = IsSplit a o path pair old best run now
IsTurn a o path old best run now (turn.Stop why) = Stops a o run why

-- ---- all below a node

abbrev pub IsClosing : Instance → BranchOptions → List Choice → List Node → Option Point → List Node → Option Point → Closing → Type 0
IsClosing a o path old best run now (closing.Tree t) = Closes a o path old best run now t
IsClosing a o path old best run now (closing.Stop why) = Stops a o run why

-- a node was split, and all below side A came
pub record IsHalfClosed (a : Instance) (o : BranchOptions) (path : List Choice) (pair : ℕ) (old : List Node) (best : Option Point) (run : List Node) (now : Option Point) (t : Tree) : Type 0 where
  pub at : List Node
  pub behind : Option Point
  pub split : IsSplit a o path pair old best at behind
  pub first : Closes a o (first_side pair path) at behind run now t

abbrev pub WasSplit : Instance → BranchOptions → List Choice → ℕ → List Node → Option Point → Type 0
WasSplit a o path pair run now = (old : List Node) × (best : Option Point) × IsSplit a o path pair old best run now

abbrev pub WasHalfClosed : Instance → BranchOptions → List Choice → ℕ → List Node → Option Point → Tree → Type 0
WasHalfClosed a o path pair run now t = (old : List Node) × (best : Option Point) × IsHalfClosed a o path pair old best run now t
