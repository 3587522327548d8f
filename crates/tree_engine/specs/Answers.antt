-- What a search by branching answers.
use Rattle.std.specs.Prelude.{◌≡◌, ◌≤◌, ◌+◌, ◌^◌, ℕ, List, [], length}
use Rattle.nogoods.specs.declared.choice.Choice.{Choice}
use Rattle.nogoods.specs.declared.choice.Side.{Side}
use Rattle.lpcc_case.specs.Instance.{Instance}
use Rattle.lpcc_case.specs.NarrowPoints.{AreNumbersOf, IsPointOf}
use Rattle.lpcc_case.specs.Pieces.{LiesIn}
use Rattle.lpcc_case.specs.Points.{Recedes}
use Rattle.lpcc_case.specs.declared.point.Point.{Point}
use Rattle.lpcc_case.specs.declared.point.Ray.{Ray}
use Rattle.reasons.specs.Reasons.{Has}
use Rattle.walks.specs.Ends.{IsSpentAt, IsWideAt}
use Rattle.tree_engine.specs.declared.node.Node.{Node}
use Rattle.tree_engine.specs.declared.answer.Branch.{Branch}
use Rattle.tree_engine.specs.declared.answer.Branch.TheVariants.{Closed, Unbounded, Overflow, PivotsSpent, NodesSpent}
use Rattle.tree_engine.specs.declared.answer.BranchOptions.{BranchOptions}
use Rattle.tree_engine.specs.Bests.{IsBest}
use Rattle.tree_engine.specs.Paths.{ArePieceChoices}
use Rattle.tree_engine.specs.Runs.{IsFurther, IsRun}
use Rattle.tree_engine.specs.Trees.{Holds, size}

-- the point lies in the piece, and the ray recedes for it
pub record IsDirection (a : Instance) (piece : List Side) (point : Point) (ray : Ray) : Type 0 where
  pub choices : List Choice
  pub are : ArePieceChoices a piece choices
  pub point_of : IsPointOf a point
  pub numbers : AreNumbersOf a ray.r
  pub lies : Has a point (LiesIn a piece)
  pub recedes : Recedes a choices ray.r

-- the run is one, and the choices of the piece, for which Ends holds, could come next
pub record StopsAt (a : Instance) (budget : ℕ) (run : List Node) (piece : List Side) (Ends : List Choice → Type 0) : Type 0 where
  pub is_run : IsRun a budget run
  pub choices : List Choice
  pub are : ArePieceChoices a piece choices
  pub further : IsFurther run choices
  pub ends : Ends choices

-- the run has as many nodes as it may, and this path could come next
pub record RunsOut (a : Instance) (o : BranchOptions) (nodes : ℕ) (left : List Choice) (run : List Node) : Type 0 where
  pub is_run : IsRun a o.pivots run
  pub further : IsFurther run left
  pub all : length run ≡ nodes
  pub allowed : nodes ≡ o.nodes

abbrev pub IsBranch : Instance → BranchOptions → Branch → Type 0
IsBranch a o (Closed best tree nodes) = IsBest a best × Holds a best [] tree × (nodes ≡ size tree)
IsBranch a o (Unbounded piece point ray nodes) = IsDirection a piece point ray
IsBranch a o (Overflow piece at run) = StopsAt a o.pivots run piece (λ choices. IsWideAt a choices at)
IsBranch a o (PivotsSpent piece at run) = StopsAt a o.pivots run piece (λ choices. IsSpentAt a choices o.pivots at)
IsBranch a o (NodesSpent nodes left run) = RunsOut a o nodes left run

-- as many nodes are allowed as a tree over all pairs has
abbrev pub IsWholeTree : Instance → BranchOptions → Type 0
IsWholeTree a o = 2 ^ (length a.pairs + 1) ≤ o.nodes + 1

-- the nodes are not spent
abbrev pub HasNodes : Branch → Type 0
HasNodes (Closed best tree nodes) = Unit {0}
HasNodes (Unbounded piece point ray nodes) = Unit {0}
HasNodes (Overflow piece at run) = Unit {0}
HasNodes (PivotsSpent piece at run) = Unit {0}
HasNodes (NodesSpent nodes left run) = ⊥
