-- The choices of a piece.
use Rattle.std.specs.Prelude.{◌+◌, ℕ, List, [], ◌∷◌}
use Rattle.nogoods.specs.declared.choice.Choice.{Choice}
use Rattle.nogoods.specs.declared.choice.Side.{Side}

-- one choice for each pair from this number on
abbrev pub choices_from : ℕ → List Side → List Choice
choices_from k [] = []
choices_from k (s ∷ sides) = (record { pair = k; side = s }) ∷ choices_from (k + 1) sides

abbrev pub choices_of : List Side → List Choice
choices_of sides = choices_from 0 sides
