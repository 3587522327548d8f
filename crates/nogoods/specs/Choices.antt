-- Choices, and lists of them.
use Rattle.std.specs.Prelude.{ℕ, Bool, true, false, ◌&&◌, nat_eq, List}
use Rattle.lp_base.specs.Ascending.{ascends_by}
use Rattle.nogoods.specs.declared.choice.Choice.{Choice}
use Rattle.nogoods.specs.declared.choice.Side.{Side}
use Rattle.nogoods.specs.declared.choice.Side.TheVariants.{A, B}

abbrev pub pair_of : Choice → ℕ
pair_of c = c.pair

-- the pairs ascend strictly, so that no pair stands twice
abbrev pub pairs_ascend : List Choice → Bool
pairs_ascend cs = ascends_by pair_of cs

abbrev pub same_side : Side → Side → Bool
same_side A A = true
same_side A B = false
same_side B A = false
same_side B B = true

abbrev pub same_choice : Choice → Choice → Bool
same_choice c d = nat_eq c.pair d.pair && same_side c.side d.side

abbrev pub other_side : Side → Side
other_side A = B
other_side B = A

-- the other side of the same pair
abbrev pub other : Choice → Choice
other c = record { pair = c.pair; side = other_side c.side }
