-- Lists whose keys ascend strictly.
use Rattle.std.specs.Prelude.{ℕ, ℤ, Bool, true, ◌&&◌, nat_lt, List, [], ◌∷◌}

-- each element's key is below that of the next
abbrev pub ascends_by : {T : Type 0} → (T → ℕ) → List T → Bool
ascends_by key [] = true
ascends_by key (x ∷ []) = true
ascends_by key (x ∷ y ∷ rest) = nat_lt (key x) (key y) && ascends_by key (y ∷ rest)

-- the column that a term names, or the constraint of a multiplier
abbrev pub number_of : ℕ × ℤ → ℕ
number_of t = t.0
