-- Sums over lists of whole numbers of any size.
use Rattle.std.specs.Prelude.{ℤ, pos, ◌+ℤ◌, ◌*ℤ◌, List, [], ◌∷◌}
use Rattle.std.specs.List.{zip}

-- the sum of what f gives over a list
abbrev pub sum_over : {T : Type 0} → (T → ℤ) → List T → ℤ
sum_over f [] = pos 0
sum_over f (x ∷ xs) = f x +ℤ sum_over f xs

-- the sum of the products of two lists, place by place
abbrev pub dot : List ℤ → List ℤ → ℤ
dot a b = sum_over (λ p. p.0 *ℤ p.1) (zip a b)
