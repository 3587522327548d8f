-- Trees over pairs with cuts at their leaves, and when one shows that nothing is lower than a best point.
use Rattle.std.specs.Prelude.{◌+◌, ℕ, List, All, Contains, Option}
use Rattle.nogoods.specs.declared.choice.Choice.{Choice}
use Rattle.lpcc_case.specs.Instance.{Instance}
use Rattle.lpcc_case.specs.declared.point.Point.{Point}
use Rattle.cuts.specs.declared.cut.Cut.{Cut}
use Rattle.cuts.specs.Cuts.{Passes, no_good_of}
use Rattle.reasons.specs.Reasons.{IsActiveAgainst}
use Rattle.tree_engine.specs.declared.tree.Tree.{Tree}
use Rattle.tree_engine.specs.declared.tree.Tree.TheVariants.{Leaf, Split'}
use Rattle.tree_engine.specs.Paths.{IsFree, first_side, second_side}

-- a cut that passes, whose choices are on the path, and which is active against the best point
pub record IsLeafCut (a : Instance) (best : Option Point) (path : List Choice) (cut : Cut) : Type 0 where
  pub passes : Passes a cut
  pub choices : All (Contains path) (no_good_of cut)
  pub active : IsActiveAgainst cut best

-- The tree holds at a path for a best point: each leaf has such a cut; each split is at a pair that is not on the
-- path, and each of its subtrees holds at the path with the subtree's side of that pair.
abbrev pub Holds : Instance → Option Point → List Choice → Tree → Type 0
Holds a best path (Leaf cut) = IsLeafCut a best path cut
Holds a best path (Split' pair p x q y) =
    IsFree a path pair
    × Holds a best (first_side pair path) x
    × Holds a best (second_side pair path) y

-- the number of its leaves and splits
abbrev pub size : Tree → ℕ
size (Leaf cut) = 1
size (Split' pair p x q y) = size x + size y + 1
