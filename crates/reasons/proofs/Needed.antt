-- Why no active cut has its choices among those with a point below the limit.
use Rattle.std.proofs.Common.{ℕ, ◌<◌, ◌≡◌, sym, ap, ◌∙◌, ℤ, pos, ◌*ℤ◌, ◌≤ℤ◌, ◌<ℤ◌, List, get_or, Option, Some, None}
use Rattle.std.specs.Prelude.{All, Contains}
use Rattle.std.proofs.lemmas.List.Elements.{All-contains}
use Rattle.lp_base.specs.Sums.{dot}
use Rattle.nogoods.specs.declared.choice.Choice.{Choice}
use Rattle.lpcc_case.specs.Instance.{Instance, chosen}
use Rattle.lpcc_case.specs.Points as points
use Rattle.lpcc_case.specs.Points.{IsTight, IsTightAt, cost_at}
use Rattle.lpcc_case.specs.NarrowPoints.{IsPointOf, IsBelow, Means}
use Rattle.lpcc_case.specs.declared.point.Point.{Point}
use Rattle.lpcc_case.proofs.Meanings.{means_one}
use Rattle.cuts.specs.declared.cut.Cut.{Cut}
use Rattle.cuts.specs.declared.cut.Cut.TheVariants as cut_of
use Rattle.cuts.specs.Cuts.{IsActive, IsTrueCut, no_good_of}
use Rattle.cuts.proofs.CutLaws.{nothing_lower}
use Rattle.reasons.specs.Reasons.{IsActiveAgainst, IsIn, IsLimit, IsPointIn, IsUnder}

-- the cost of the point that the numbers mean
cost_of : (a : Instance) (q : Point) (p : points.Point a.columns) → IsPointOf a q → Means q p → cost_at a p ≡ q.z
cost_of a q p of means = ap (dot a.cost) means.0 ∙ sym of.cost

tight_among : (a : Instance) (p : points.Point a.columns) (tight ng : List Choice) → IsTightAt a p tight → All (Contains tight) ng → IsTightAt a p ng
tight_among a p tight ng there within i d lt = All-contains (λ c. IsTight p (chosen a c)) tight (get_or ng i d) there (within i d lt)

below_is_lower : (a : Instance) (q limit : Point) (p b : points.Point a.columns) → cost_at a p ≡ q.z → pos p.d ≡ q.d → cost_at a b ≡ limit.z → pos b.d ≡ limit.d → IsBelow q limit → points.IsLower a p b
below_is_lower a q limit p b ep dp eb db h = rw (ep, db, eb, dp) h

active_is : (a : Instance) (cut : Cut) (limit : Point) (b : points.Point a.columns) → cost_at a b ≡ limit.z → pos b.d ≡ limit.d → IsActiveAgainst cut (Some limit) → IsActive a cut (Some b)
active_is a (cut_of.Ray ng mult) limit b eb db h = tt
active_is a (cut_of.Point ng mult e v) limit b eb db h = rw (eb, db) h

active_without : (a : Instance) (cut : Cut) → IsActiveAgainst cut None → IsActive a cut None
active_without a (cut_of.Ray ng mult) h = tt
active_without a (cut_of.Point ng mult e v) h = h

pub needed : (a : Instance) (limit : Option Point) (others : List Choice) (q : Point) (cut : Cut) → IsLimit a limit → IsPointIn a others q → IsUnder q limit → IsTrueCut a cut → IsActiveAgainst cut limit → All (Contains others) (no_good_of cut) → ⊥
needed a None others q cut of point under true_cut active within =
    let m = means_one a q point.numbers.fits in
    let there = point.inside m.0 m.1 in
    nothing_lower a cut None m.0 true_cut (active_without a cut active) there.met (tight_among a m.0 others (no_good_of cut) there.tight_there within) tt
needed a (Some limit) others q cut of point under true_cut active within =
    let m = means_one a q point.numbers.fits in
    let l = means_one a limit of.fits in
    let there = point.inside m.0 m.1 in
    nothing_lower a cut (Some l.0) m.0 true_cut (active_is a cut limit l.0 (cost_of a limit l.0 of l.1) l.1.1 active) there.met (tight_among a m.0 others (no_good_of cut) there.tight_there within)
    (below_is_lower a q limit m.0 l.0 (cost_of a q m.0 point.numbers m.1) m.1.1 (cost_of a limit l.0 of l.1) l.1.1 under)
