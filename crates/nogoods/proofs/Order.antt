-- The order of pieces is a strict order.
use Rattle.std.proofs.Common.{◌≡◌, refl, List, [], ◌∷◌, true, false}
use Rattle.nogoods.specs.declared.choice.Side.{Side}
use Rattle.nogoods.specs.declared.choice.Side.TheVariants.{A, B}
use Rattle.nogoods.specs.Pieces.{precedes}

pub precedes-self : (a : List Side) → precedes a a ≡ false
precedes-self [] = refl
precedes-self (A ∷ a) = precedes-self a
precedes-self (B ∷ a) = precedes-self a

pub precedes-trans : (a b c : List Side) → precedes a b ≡ true → precedes b c ≡ true → precedes a c ≡ true
precedes-trans [] [] c h k = k
precedes-trans [] (t ∷ b) [] h k = k
precedes-trans [] (t ∷ b) (u ∷ c) h k = refl
precedes-trans (s ∷ a) [] c h k = absurd (cc)
precedes-trans (s ∷ a) (t ∷ b) [] h k = absurd (cc)
precedes-trans (A ∷ a) (A ∷ b) (A ∷ c) h k = precedes-trans a b c h k
precedes-trans (A ∷ a) (A ∷ b) (B ∷ c) h k = refl
precedes-trans (A ∷ a) (B ∷ b) (A ∷ c) h k = absurd (cc)
precedes-trans (A ∷ a) (B ∷ b) (B ∷ c) h k = refl
precedes-trans (B ∷ a) (A ∷ b) (A ∷ c) h k = absurd (cc)
precedes-trans (B ∷ a) (A ∷ b) (B ∷ c) h k = absurd (cc)
precedes-trans (B ∷ a) (B ∷ b) (A ∷ c) h k = absurd (cc)
precedes-trans (B ∷ a) (B ∷ b) (B ∷ c) h k = precedes-trans a b c h k
