-- The choices of a piece.
use Rattle.std.proofs.Common.{ℕ, ◌+◌, refl, arith, List, [], ◌∷◌}
use Rattle.std.specs.Prelude.{IsTrue, nat_lt}
use Rattle.std.proofs.lemmas.Bool.{and_from, lt-ltb}
use Rattle.lp_base.specs.Ascending.{ascends_by}
use Rattle.nogoods.specs.declared.choice.Side.{Side}
use Rattle.nogoods.specs.Choices.{pairs_ascend, pair_of}
use Rattle.cert_parts.specs.PieceChoices.{choices_from, choices_of}

ascend_from : (k : ℕ) (sides : List Side) → IsTrue (pairs_ascend (choices_from k sides))
ascend_from k [] = refl
ascend_from k (s ∷ []) = refl
ascend_from k (s ∷ t ∷ sides) = and_from (nat_lt k (k + 1)) (ascends_by pair_of (choices_from (k + 1) (t ∷ sides))) (lt-ltb k (k + 1) (omega arith)) (ascend_from (k + 1) (t ∷ sides))

-- their pairs ascend
pub choices_ascend : (sides : List Side) → IsTrue (pairs_ascend (choices_of sides))
choices_ascend sides = ascend_from 0 sides
