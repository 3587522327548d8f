-- Pieces: one side for each pair, the pairs counted from 0.
use Rattle.std.specs.Prelude.{◌≡◌, Bool, true, false, List, [], ◌∷◌, All, Some, slice_get}
use Rattle.nogoods.specs.declared.choice.Choice.{Choice}
use Rattle.nogoods.specs.declared.choice.Side.{Side}
use Rattle.nogoods.specs.declared.choice.Side.TheVariants.{A, B}

-- the piece has this side for this pair
abbrev pub IsChoiceOf : List Side → Choice → Type 0
IsChoiceOf sides c = slice_get sides c.pair ≡ Some c.side

-- a no-good bars a piece where each of its choices is the piece's
abbrev pub Bars : List Choice → List Side → Type 0
Bars no_good sides = All (IsChoiceOf sides) no_good

-- the order of words, the first pair first and A before B
abbrev pub precedes : List Side → List Side → Bool
precedes [] [] = false
precedes [] (t ∷ b) = true
precedes (s ∷ a) [] = false
precedes (A ∷ a) (A ∷ b) = precedes a b
precedes (A ∷ a) (B ∷ b) = true
precedes (B ∷ a) (A ∷ b) = false
precedes (B ∷ a) (B ∷ b) = precedes a b
