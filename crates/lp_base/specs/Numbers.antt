-- Sizes of whole numbers.
use Rattle.std.specs.Prelude.{◌<◌, ◌^◌, ℕ, ℤ, unsigned_abs}

-- 2^63, one more than the size of the largest narrow number
abbrev pub narrow_bound : ℕ
narrow_bound = 2 ^ 63

-- at most 2^63 - 1 in size: each 64-bit number but the least
abbrev pub IsNarrow : ℤ → Type 0
IsNarrow z = unsigned_abs z < narrow_bound
