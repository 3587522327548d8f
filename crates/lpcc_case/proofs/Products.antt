-- The sums of the tests: how large they may be, and how they grow.
use Rattle.std.proofs.Common.{ℕ, zero, suc, ◌+◌, ◌*◌, ◌^◌, ◌<◌, ◌≤◌, ◌≡◌, ◌∙◌, refl, sym, ap, arith, ℤ, pos, negsuc, ◌+ℤ◌, ◌*ℤ◌, ◌≤ℤ◌, List, [], ◌∷◌, length, get_or, take, to_z, of_z}
use Rattle.std.specs.Prelude.{All, unsigned_abs}
use Rattle.std.specs.List.{AllByRecursion, zip}
use Rattle.std.proofs.lemmas.Int.{ints, fits_signed_from_abs}
use Rattle.std.proofs.Math.Nat.{mul-le-mul}
use Rattle.std.proofs.lemmas.List.{length-take}
use Rattle.std.proofs.lemmas.List.Elements.{All-take, recursion_from_All}
use mir.Syntax.{w64, w128}
use Rattle.lp_base.specs.Ascending.{number_of}
use Rattle.lp_base.specs.Numbers.{IsNarrow}
use Rattle.lp_base.specs.Sums.{dot}
use Rattle.lp_base.proofs.Machine.{again, again_64, narrow_again}
use Rattle.lp_base.proofs.Ring.{abs_add, abs_mul}
use Rattle.lp_base.proofs.Rises.{few_ascending}
use Rattle.lp_base.proofs.SumLaws.{sum_over-more, products_small}
use Rattle.lpcc_case.specs.declared.constraint.Constraint.{Constraint}
use Rattle.lpcc_case.specs.Instance.{Instance}
use Rattle.lpcc_case.specs.Cases.{IsCase, IsConstraint, FitsCase}
use Rattle.lpcc_case.specs.NarrowPoints.{AreNumbersOf}
use Rattle.lpcc_case.specs.Points.{left_side}

pub fitting_again : (a : ℤ) → FitsCase a → to_z w64 (of_z w64 a) ≡ a
fitting_again a h = again_64 a (fits_signed_from_abs w64 a (omega (arith, h)))

-- the product of a number of a case and a narrow one
pub product_small : (a y : ℤ) → FitsCase a → IsNarrow y → unsigned_abs (a *ℤ y) ≤ 2 ^ 115
product_small a y fits narrow = omega (arith, abs_mul a y (2 ^ 52) (2 ^ 63) fits (omega (arith, narrow)))

-- a product more, read again
pub added : (r s a y : ℤ) → r ≡ s +ℤ (to_z w64 (of_z w64 a) *ℤ to_z w64 (of_z w64 y)) → unsigned_abs s < 2 ^ 126 → FitsCase a → IsNarrow y → to_z w128 (of_z w128 r) ≡ s +ℤ (a *ℤ y)
added r s a y e small fits narrow =
    let value : r ≡ s +ℤ (a *ℤ y) = e ∙ rw (fitting_again a fits, narrow_again y narrow) refl in
    rw value (again (s +ℤ (a *ℤ y)) (omega (arith, abs_add s (a *ℤ y), product_small a y fits narrow)))

narrow_at : (x : List ℤ) (j : ℕ) → All IsNarrow x → j < length x → unsigned_abs (get_or x j (pos 0)) ≤ 2 ^ 63
narrow_at x j narrow within = omega (arith, narrow j (pos 0) within)

-- the sum over the first terms
pub left_side_small : (c : Constraint) (x : List ℤ) (i : ℕ) → IsConstraint (length x) c → length x ≤ 1000 → All IsNarrow x → unsigned_abs (left_side (take i c.terms) x) < 2 ^ 126
left_side_small c x i form few narrow =
    let P = λ (t : ℕ × ℤ). (unsigned_abs t.1 ≤ 2 ^ 52) × (unsigned_abs (get_or x t.0 (pos 0)) ≤ 2 ^ 63) in
    let both : All P c.terms = λ k d lt. ((form.coefficients k d lt).0, narrow_at x _ narrow (form.columns_named k d lt)) in
    let small = products_small (λ (t : ℕ × ℤ). t.1) (λ t. get_or x t.0 (pos 0)) (2 ^ 52) (2 ^ 63) (take i c.terms) (recursion_from_All P (take i c.terms) (All-take P i c.terms both)) in
    omega (arith, small, length-take i c.terms, few_ascending number_of (length x) c.terms form.ascending form.columns_named, few)

pub left_side_more : (c : Constraint) (x : List ℤ) (ts : List (ℕ × ℤ)) (i : ℕ) (s r : ℤ) → IsConstraint (length x) c → length x ≤ 1000 → All IsNarrow x → ts ≡ c.terms → i < length ts → s ≡ left_side (take i c.terms) x → r ≡ s +ℤ (to_z w64 (of_z w64 (get_or ts i (0, pos 0)).1) *ℤ to_z w64 (of_z w64 (get_or x (get_or ts i (0, pos 0)).0 (pos 0)))) → to_z w128 (of_z w128 r) ≡ left_side (take (i + 1) c.terms) x
left_side_more c x ts i s r form few narrow same lt so_far e =
    let inside : i < length c.terms = rw same at lt in
    let read : r ≡ s +ℤ (to_z w64 (of_z w64 (get_or c.terms i (0, pos 0)).1) *ℤ to_z w64 (of_z w64 (get_or x (get_or c.terms i (0, pos 0)).0 (pos 0)))) = rw same at e in
    let t = get_or c.terms i (0, pos 0) in
    let small : unsigned_abs s < 2 ^ 126 = rw so_far (left_side_small c x i form few narrow) in
    added r s t.1 (get_or x t.0 (pos 0)) read small (form.coefficients i (0, pos 0) inside).0 (narrow t.0 (pos 0) (form.columns_named i (0, pos 0) inside))
    ∙ rw so_far (sym (sum_over-more (λ u. u.1 *ℤ get_or x u.0 (pos 0)) c.terms i (0, pos 0) inside))

-- ---- the sum of the costs times numbers

-- the first places of two lists are the first pairs
zip-take : (xs ys : List ℤ) (i : ℕ) → zip (take i xs) (take i ys) ≡ take i (zip xs ys)
zip-take xs ys zero = refl
zip-take [] ys (suc i) = refl
zip-take (x ∷ xs) [] (suc i) = refl
zip-take (x ∷ xs) (y ∷ ys) (suc i) = ap (λ rest. (x, y) ∷ rest) (zip-take xs ys i)

zip-length : (xs ys : List ℤ) → length xs ≡ length ys → length (zip xs ys) ≡ length xs
zip-length [] ys e = refl
zip-length (x ∷ xs) [] e = absurd (omega arith)
zip-length (x ∷ xs) (y ∷ ys) e = omega (arith, zip-length xs ys (omega arith))

zip-read : (xs ys : List ℤ) (i : ℕ) → i < length xs → length xs ≡ length ys → get_or (zip xs ys) i (pos 0, pos 0) ≡ (get_or xs i (pos 0), get_or ys i (pos 0))
zip-read [] ys i h e = absurd (omega arith)
zip-read (x ∷ xs) [] i h e = absurd (omega arith)
zip-read (x ∷ xs) (y ∷ ys) zero h e = refl
zip-read (x ∷ xs) (y ∷ ys) (suc i) h e = zip-read xs ys i (omega arith) (omega arith)

-- numbers of a case at each place of two lists
fits_pair : (xs ys : List ℤ) → All FitsCase xs → All IsNarrow ys → AllByRecursion (λ p. (unsigned_abs p.0 ≤ 2 ^ 52) × (unsigned_abs p.1 ≤ 2 ^ 63)) (zip xs ys)
fits_pair xs ys fit narrow = from_both xs ys (recursion_from_All FitsCase xs fit) (recursion_from_All IsNarrow ys narrow)
  where
    from_both : (xs ys : List ℤ) → AllByRecursion FitsCase xs → AllByRecursion IsNarrow ys → AllByRecursion (λ p. (unsigned_abs p.0 ≤ 2 ^ 52) × (unsigned_abs p.1 ≤ 2 ^ 63)) (zip xs ys)
    from_both [] ys f n = tt
    from_both (x ∷ xs) [] f n = tt
    from_both (x ∷ xs) (y ∷ ys) f n = ((f.0, omega (arith, n.0)), from_both xs ys f.1 n.1)

-- the sum over the first columns
pub cost_small : (a : Instance) (x : List ℤ) (i : ℕ) → IsCase a → AreNumbersOf a x → unsigned_abs (dot (take i a.cost) (take i x)) < 2 ^ 126
cost_small a x i kept h =
    let fits = fits_pair (take i a.cost) (take i x) (All-take FitsCase i a.cost kept.costs) (All-take IsNarrow i x h.narrow) in
    let small = products_small (λ (p : ℤ × ℤ). p.0) (λ p. p.1) (2 ^ 52) (2 ^ 63) (zip (take i a.cost) (take i x)) fits in
    omega (
      arith,
      small,
      ap length (zip-take a.cost x i),
      length-take i (zip a.cost x),
      zip-length a.cost x (omega (arith, kept.cost_length, h.size)),
      kept.cost_length,
      kept.few_columns,
    )

pub cost_more : (a : Instance) (x cost : List ℤ) (i : ℕ) (s r : ℤ) → IsCase a → AreNumbersOf a x → cost ≡ a.cost → i < length cost → s ≡ dot (take i a.cost) (take i x) → r ≡ s +ℤ (to_z w64 (of_z w64 (get_or cost i (pos 0))) *ℤ to_z w64 (of_z w64 (get_or x i (pos 0)))) → to_z w128 (of_z w128 r) ≡ dot (take (i + 1) a.cost) (take (i + 1) x)
cost_more a x cost i s r kept h same lt so_far e =
    let inside : i < length a.cost = rw same at lt in
    let sizes : length a.cost ≡ length x = omega (arith, kept.cost_length, h.size) in
    let in_pairs : i < length (zip a.cost x) = omega (arith, zip-length a.cost x sizes, inside) in
    let read : r ≡ s +ℤ (to_z w64 (of_z w64 (get_or a.cost i (pos 0))) *ℤ to_z w64 (of_z w64 (get_or x i (pos 0)))) = rw same at e in
    let small : unsigned_abs s < 2 ^ 126 = rw so_far (cost_small a x i kept h) in
    let one : s +ℤ (get_or a.cost i (pos 0) *ℤ get_or x i (pos 0)) ≡ dot (take (i + 1) a.cost) (take (i + 1) x) =
    rw (
      so_far,
      zip-take a.cost x i,
      zip-take a.cost x (i + 1),
      sum_over-more (λ (p : ℤ × ℤ). p.0 *ℤ p.1) (zip a.cost x) i (pos 0, pos 0) in_pairs,
      zip-read a.cost x i inside sizes,
    ) refl in
    added r s (get_or a.cost i (pos 0)) (get_or x i (pos 0)) read small (kept.costs i (pos 0) inside) (h.narrow i (pos 0) (omega (arith, sizes, inside))) ∙ one

-- ---- the value of a point

-- a product as the code gives it
pub given_product : (p o a d : ℤ) → p ≡ to_z w64 (of_z w64 o) *ℤ to_z w64 (of_z w64 d) → o ≡ a → FitsCase a → IsNarrow d → (p ≡ a *ℤ d) × (unsigned_abs p ≤ 2 ^ 115)
given_product p o a d e same fits narrow =
    let value : p ≡ a *ℤ d = e ∙ rw (same, fitting_again a fits, narrow_again d narrow) refl in
    (value, rw value (product_small a d fits narrow))

pub sum_again : (z p : ℤ) → unsigned_abs z ≤ 2 ^ 126 → unsigned_abs p ≤ 2 ^ 115 → to_z w128 (of_z w128 (to_z w128 (of_z w128 z) +ℤ to_z w128 (of_z w128 p))) ≡ z +ℤ p
sum_again z p hz hp = rw (again z (omega arith), again p (omega arith)) (again (z +ℤ p) (omega (arith, abs_add z p)))

pub sum_small : (z p : ℤ) → unsigned_abs z ≤ 2 ^ 126 → unsigned_abs p ≤ 2 ^ 115 → unsigned_abs (z +ℤ p) < 2 ^ 127
sum_small z p hz hp = omega (arith, abs_add z p)

pub positive_product : (s d : ℤ) → pos 1 ≤ℤ s → pos 1 ≤ℤ d → pos 1 ≤ℤ (s *ℤ d)
positive_product (pos a) (pos b) ha hb =
    let a_above : 1 ≤ a = omega (arith, ints) in
    let b_above : 1 ≤ b = omega (arith, ints) in
    let above : 1 * 1 ≤ a * b = mul-le-mul a_above b_above in
    omega (arith, ints)
positive_product (pos a) (negsuc b) ha hb = absurd (omega (arith, ints))
positive_product (negsuc a) d ha hb = absurd (omega (arith, ints))
