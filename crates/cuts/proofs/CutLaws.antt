-- Why a cut that passes the test is true, and what a true cut excludes.
use Rattle.std.proofs.Common.{ℕ, ◌<◌, ◌≡◌, refl, ap, arith, ℤ, pos, ◌+ℤ◌, ◌*ℤ◌, ◌≤ℤ◌, ◌<ℤ◌, List, [], ◌∷◌, length, get_or, Option, Some, None}
use Rattle.std.specs.Prelude.{All, Any}
use Rattle.std.specs.List.{AllByRecursion}
use Rattle.std.proofs.lemmas.Int.{ints, by_lt_z}
use Rattle.std.proofs.lemmas.List.Elements.{recursion_from_All, All-get_or}
use Rattle.lp_base.proofs.Ring.{mul_add_right, mul_add_left, mul_assoc, mul_swap, mul_le_right, mul_le_left, mul_lt_right}
use Rattle.nogoods.specs.declared.choice.Choice.{Choice}
use Rattle.nogoods.specs.declared.choice.Side.{Side}
use Rattle.nogoods.specs.Pieces.{Bars}
use Rattle.lpcc_case.specs.declared.constraint.Kind.{Kind}
use Rattle.lpcc_case.specs.declared.constraint.Kind.TheVariants.{Ge, Eq}
use Rattle.lpcc_case.specs.Instance.{Instance, constraint_at, no_constraint, chosen, chosen_number}
use Rattle.lpcc_case.specs.Points as points
use Rattle.lpcc_case.specs.Points.{Relates, Meets, MeetsAll, IsTight, IsTightAt, left_side, cost_at}
use Rattle.lpcc_case.specs.Pieces.{LiesIn, BarsNothingLower, BarsOnlyEmptyPieces, Improves}
use Rattle.cuts.specs.declared.cut.Cut.{Cut}
use Rattle.cuts.specs.declared.cut.Cut.TheVariants.{Ray, Point}
use Rattle.cuts.specs.Cuts.{Passes, IsTrueCut, IsActive, HasSign, column_sum, right_sum, no_good_of}
use Rattle.cuts.proofs.Exchange.{weighed, weighed_across, across, across_same, across_zero, across_multiple}

-- a multiplier keeps a constraint's order, where a negative one stands on what is tight
times_met : (k : Kind) (y left right : ℤ) → Relates k left right → (y <ℤ pos 0 → k ≡ Ge → left ≡ right) → (y *ℤ right) ≤ℤ (y *ℤ left)
times_met Eq y l r met tight = omega (arith, ints, ap (λ z. y *ℤ z) met)
times_met Ge y l r met tight = by_lt_z y (pos 0) (λ negative. omega (arith, ints, ap (λ z. y *ℤ z) (tight negative refl))) (λ positive. mul_le_left y r l positive met)

-- the constraint of one of the choices is tight
tight_number : (a : Instance) (p : points.Point a.columns) (ng : List Choice) (k : ℕ) → IsTightAt a p ng → Any (λ c. chosen_number a c ≡ k) ng → IsTight p (constraint_at a k)
tight_number a p ng k tight any =
    let at : IsTight p (chosen a any.1) = rw any.3 at (tight any.0 any.1 any.2) in
    rw any.4 at at

-- so the weighed right side is at most the weighed left side
weighed_above : (a : Instance) (p : points.Point a.columns) (ng : List Choice) (mult : List (ℕ × ℤ)) → AllByRecursion (λ m. m.0 < length a.constraints) mult → AllByRecursion (HasSign a ng) mult → MeetsAll a p → IsTightAt a p ng → (right_sum a mult *ℤ pos p.d) ≤ℤ weighed a mult p.x
weighed_above a p ng [] named signs met tight = omega (arith, ints)
weighed_above a p ng (m ∷ ms) named signs met tight =
    let c = constraint_at a m.0 in
    let here = times_met c.kind m.1 (left_side c.terms p.x) (c.rhs *ℤ pos p.d) (All-get_or (Meets p) a.constraints m.0 no_constraint named.0 met) (λ negative inequality. tight_number a p ng m.0 tight (signs.0 negative inequality)) in
    let rest = weighed_above a p ng ms named.1 signs.1 met tight in
    rw (mul_add_right (pos p.d) (m.1 *ℤ c.rhs) (right_sum a ms), mul_assoc m.1 c.rhs (pos p.d)) (omega (arith, ints, here, rest))

passed_above : (a : Instance) (ng : List Choice) (mult : List (ℕ × ℤ)) (f : ℕ → ℤ) → All (λ m. m.0 < length a.constraints) mult → All (HasSign a ng) mult → ((j : ℕ) → j < a.columns → column_sum a mult j ≡ f j) → (p : points.Point a.columns) → MeetsAll a p → IsTightAt a p ng → (right_sum a mult *ℤ pos p.d) ≤ℤ across f p.x 0
passed_above a ng mult f named signs sums p met tight =
    let above = weighed_above a p ng mult (recursion_from_All (λ m. m.0 < length a.constraints) mult named) (recursion_from_All (HasSign a ng) mult signs) met tight in
    rw (weighed_across a mult p.x, across_same (column_sum a mult) f p.x 0 (λ j lt. sums j (omega (arith, p.size)))) at above

ray_is_true : (a : Instance) (ng : List Choice) (mult : List (ℕ × ℤ)) → Passes a (Ray ng mult) → (p : points.Point a.columns) → MeetsAll a p → IsTightAt a p ng → ⊥
ray_is_true a ng mult h p met tight =
    let above = passed_above a ng mult (λ j. pos 0) h.indexed.multipliers.constraints_named h.signs h.sums p met tight in
    omega (arith, ints, above, across_zero p.x 0, mul_lt_right p.d (pos 0) (right_sum a mult) p.positive h.bound)

point_is_true : (a : Instance) (ng : List Choice) (mult : List (ℕ × ℤ)) (e v : ℤ) → Passes a (Point ng mult e v) → (p : points.Point a.columns) → MeetsAll a p → IsTightAt a p ng → (v *ℤ pos p.d) ≤ℤ (e *ℤ cost_at a p)
point_is_true a ng mult e v h p met tight =
    let above = passed_above a ng mult (λ j. e *ℤ get_or a.cost j (pos 0)) h.indexed.multipliers.constraints_named h.signs h.sums.1 p met tight in
    rw (h.bound, across_multiple e a.cost p.x) at above

pub cut_is_true : (a : Instance) (cut : Cut) → Passes a cut → IsTrueCut a cut
cut_is_true a (Ray ng mult) h = ray_is_true a ng mult h
cut_is_true a (Point ng mult e v) h = (h.sums.0, point_is_true a ng mult e v h)

-- a point of a barred piece is tight at each choice of the no-good
tight_in_piece : (a : Instance) (ng : List Choice) (sides : List Side) (p : points.Point a.columns) → Bars ng sides → LiesIn a sides p → IsTightAt a p ng
tight_in_piece a ng sides p bars lies k d lt = lies.tight _ (bars k d lt)

pub ray_bars_only_empty : (a : Instance) (ng : List Choice) (mult : List (ℕ × ℤ)) → IsTrueCut a (Ray ng mult) → BarsOnlyEmptyPieces a ng
ray_bars_only_empty a ng mult true_cut sides piece bars p lies = true_cut p lies.met (tight_in_piece a ng sides p bars lies)

-- of two values x / d and y / f with v / e between them the second is not lower
not_lower : (e v x y : ℤ) (d f : ℕ) → pos 1 ≤ℤ e → (v *ℤ pos d) ≤ℤ (e *ℤ x) → (e *ℤ y) ≤ℤ (v *ℤ pos f) → (x *ℤ pos f) <ℤ (y *ℤ pos d) → ⊥
not_lower e v x y d f e_positive above below lower =
    let first = mul_le_right d (e *ℤ y) (v *ℤ pos f) below in
    let second = mul_le_right f (v *ℤ pos d) (e *ℤ x) above in
    let strict = mul_le_left e ((x *ℤ pos f) +ℤ pos 1) (y *ℤ pos d) (omega (arith, ints)) (omega (arith, ints)) in
    omega (arith, ints, mul_assoc e y (pos d), mul_assoc e x (pos f), mul_swap v (pos f) (pos d), mul_add_left e (x *ℤ pos f) (pos 1), first, second, strict)

pub nothing_lower : (a : Instance) (cut : Cut) (best : Option (points.Point a.columns)) (p : points.Point a.columns) → IsTrueCut a cut → IsActive a cut best → MeetsAll a p → IsTightAt a p (no_good_of cut) → Improves a p best → ⊥
nothing_lower a (Ray ng mult) best p true_cut active met tight improves = true_cut p met tight
nothing_lower a (Point ng mult e v) None p true_cut active met tight improves = active
nothing_lower a (Point ng mult e v) (Some q) p true_cut active met tight improves =
    not_lower e v (cost_at a p) (cost_at a q) p.d q.d true_cut.0 (true_cut.1 p met tight) active improves

pub bars_nothing_lower : (a : Instance) (cut : Cut) (best : Option (points.Point a.columns)) → Passes a cut → IsActive a cut best → BarsNothingLower a best (no_good_of cut)
bars_nothing_lower a cut best passes active sides piece bars p lies improves =
    nothing_lower a cut best p (cut_is_true a cut passes) active lies.met (tight_in_piece a (no_good_of cut) sides p bars lies) improves
