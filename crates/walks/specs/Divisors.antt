-- Lists of numbers in lowest terms.
use Rattle.std.specs.Prelude.{◌≡◌, ℕ, ℤ, List, unsigned_abs}
use Rattle.std.specs.List.{AllByRecursion}
use Prim.Native.Nat.{◌∣◌}

-- no common divisor above 1
abbrev pub AreCoprime : List ℤ → Type 0
AreCoprime zs = (d : ℕ) → AllByRecursion (λ z. d ∣ unsigned_abs z) zs → d ≡ 1
