-- Points that are kept by a test.
use Rattle.std.proofs.Common.{◌≡◌, Bool, true, false, List, [], ◌∷◌, map, refl, ap}
use Rattle.std.specs.Prelude.{filter, if◌then◌else◌}
use Rattle.lpcc_case.specs.declared.point.Point.{Point}
use Rattle.shrink.specs.declared.known.KnownPoint.{KnownPoint}
use Rattle.shrink.specs.Known.{is_lower, point_of}

kept_or_not : (t : Bool) (k : KnownPoint) (ks : List KnownPoint) (qs : List Point) → map point_of ks ≡ qs → map point_of (if t then k ∷ ks else ks) ≡ (if t then k.point ∷ qs else qs)
kept_or_not true k ks qs e = ap (λ (xs : List Point). k.point ∷ xs) e
kept_or_not false k ks qs e = e

pub points_lower : (limit : Point) (ks : List KnownPoint) → map point_of (filter (λ k. is_lower limit k.point) ks) ≡ filter (is_lower limit) (map point_of ks)
points_lower limit [] = refl
points_lower limit (k ∷ ks) = kept_or_not (is_lower limit k.point) k _ _ (points_lower limit ks)
