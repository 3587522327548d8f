-- Points of systems: those of a solve, and those of fewer choices.
use Rattle.std.proofs.Common.{◌≡◌, pos, List, get_or, sym, ◌∙◌}
use Rattle.std.specs.Prelude.{All, Contains}
use Rattle.std.proofs.lemmas.List.Elements.{All-contains}
use Rattle.nogoods.specs.declared.choice.Choice.{Choice}
use Rattle.lpcc_case.specs.Instance.{Instance, chosen}
use Rattle.lpcc_case.specs.Points as points
use Rattle.lpcc_case.specs.Points.{IsTight, IsTightAt, Meets, MeetsAll, Recedes, left_side}
use Rattle.lpcc_case.specs.NarrowPoints.{Means}
use Rattle.lpcc_case.specs.declared.point.Point.{Point}
use Rattle.lpcc_case.specs.declared.point.Ray.{Ray}
use Rattle.walks.specs.Ends.{IsPointAt, IsRayAt}
use Rattle.reasons.specs.Reasons.{IsIn, IsPointIn, IsRayFor}

-- what the same numbers mean is in the same systems
same_numerators : (a : Instance) (q : Point) (p r : points.Point a.columns) → Means q p → Means q r → r.x ≡ p.x
same_numerators a q p r mp mr = mr.0 ∙ sym mp.0

same_denominator : (a : Instance) (q : Point) (p r : points.Point a.columns) → Means q p → Means q r → pos r.d ≡ pos p.d
same_denominator a q p r mp mr = mr.1 ∙ sym mp.1

pub in_system : (a : Instance) (tight : List Choice) (q : Point) (p r : points.Point a.columns) → Means q p → Means q r → IsIn a tight p → IsIn a tight r
in_system a tight q p r mp mr at = record {
  met = λ i d lt. rw (same_numerators a q p r mp mr, same_denominator a q p r mp mr) (at.met i d lt);
  tight_there = λ i d lt. rw (same_numerators a q p r mp mr, same_denominator a q p r mp mr) (at.tight_there i d lt);
}

pub point_in : (a : Instance) (tight : List Choice) (q : Point) → IsPointAt a tight q → IsPointIn a tight q
point_in a tight q at = record {
  numbers = at.numbers;
  inside = λ p means. in_system a tight q at.point p at.means means (record { met = at.met; tight_there = at.tight_there });
}

pub ray_for : (a : Instance) (tight : List Choice) (ray : Ray) → IsRayAt a tight ray → IsRayFor a tight ray
ray_for a tight ray at = record { numbers = at.numbers; recedes = at.recedes }

-- ---- fewer choices

pub tight_among : (a : Instance) (p : points.Point a.columns) (tight fewer : List Choice) → All (Contains tight) fewer → IsTightAt a p tight → IsTightAt a p fewer
tight_among a p tight fewer within there i d lt = All-contains (λ c. IsTight p (chosen a c)) tight (get_or fewer i d) there (within i d lt)

pub point_among : (a : Instance) (tight fewer : List Choice) (q : Point) → All (Contains tight) fewer → IsPointIn a tight q → IsPointIn a fewer q
point_among a tight fewer q within at = record {
  numbers = at.numbers;
  inside = λ p means. let here = at.inside p means in record { met = here.met; tight_there = tight_among a p tight fewer within here.tight_there };
}

pub ray_among : (a : Instance) (tight fewer : List Choice) (ray : Ray) → All (Contains tight) fewer → IsRayFor a tight ray → IsRayFor a fewer ray
ray_among a tight fewer ray within for_tight = record {
  numbers = for_tight.numbers;
  recedes = record {
    size = for_tight.recedes.size;
    keeps = for_tight.recedes.keeps;
    stays = λ i d lt. All-contains (λ c. left_side (chosen a c).terms ray.r ≡ pos 0) tight (get_or fewer i d) for_tight.recedes.stays (within i d lt);
    falls = for_tight.recedes.falls;
  };
}
