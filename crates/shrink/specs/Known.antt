-- Points that are known.
use Rattle.std.specs.Prelude.{pos, ◌*ℤ◌, ◌&&◌, Bool, int_le, int_lt, nat_lt, if◌then◌else◌, List, length, drop}
use Rattle.lpcc_case.specs.declared.point.Point.{Point}
use Rattle.shrink.specs.declared.known.KnownPoint.{KnownPoint}
use Rattle.shrink.specs.declared.known.TheConstants.{MOST_KNOWN}

abbrev pub point_of : KnownPoint → Point
point_of k = k.point

-- without the oldest one, where there are too many
abbrev pub newest : List Point → List Point
newest qs = if nat_lt MOST_KNOWN (length qs) then drop 1 qs else qs

-- q is lower than the limit, and both have a denominator
abbrev pub is_lower : Point → Point → Bool
is_lower limit q = int_le (pos 1) q.d && int_le (pos 1) limit.d && int_lt (q.z *ℤ limit.d) (limit.z *ℤ q.d)
