-- The order of points as entries.
use Rattle.std.specs.Prelude.{◌&&◌, Bool, ◌*ℤ◌, pos, int_lt, int_le}
use Rattle.lpcc_case.specs.declared.point.Point.{Point}

-- both denominators are at least 1, and z / d of one is below z / d of the other
abbrev pub is_lower_point : Point → Point → Bool
is_lower_point p q = int_le (pos 1) p.d && int_le (pos 1) q.d && int_lt (p.z *ℤ q.d) (q.z *ℤ p.d)
