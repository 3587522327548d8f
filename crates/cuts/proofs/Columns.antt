-- How the sums of columns grow, and how large they may be.
use Rattle.std.proofs.Common.{ℕ, zero, suc, ◌^◌, ◌<◌, ◌≤◌, ◌≡◌, refl, arith, ℤ, pos, ◌+ℤ◌, ◌*ℤ◌, IsTrue, Bool, true, false, cond, eqb, inl, inr, List, [], ◌∷◌, length, get_or, take}
use Rattle.std.specs.Prelude.{All, unsigned_abs}
use Rattle.std.specs.List.{AllByRecursion}
use Rattle.std.proofs.lemmas.Int.{ints}
use Rattle.std.proofs.lemmas.Bool.{cases_lt}
use Rattle.std.proofs.lemmas.List.{length-take}
use Rattle.std.proofs.lemmas.List.Elements.{All-take, recursion_from_All}
use Rattle.std.proofs.Math.IntN.{+ℤ_idl}
use Rattle.lp_base.specs.Ascending.{ascends_by, number_of}
use Rattle.lp_base.specs.Sums.{sum_over}
use Rattle.lp_base.proofs.Rises.{ascends_next, ascends_below, ascends_tail, few_ascending}
use Rattle.lp_base.proofs.SumLaws.{products_small}
use Rattle.lpcc_case.specs.Instance.{Instance, constraint_at}
use Rattle.lpcc_case.specs.Cases.{IsCase, FitsCase}
use Rattle.lpcc_case.specs.Points.{coefficient}
use Rattle.lpcc_case.proofs.Members.{constraint_of_case}
use Rattle.lpcc_case.proofs.Shares.{share, share_after, share_before}
use Rattle.cuts.specs.Cuts.{column_sum, right_sum, AreMultipliers}

-- a column below all others of ascending terms has none of them
coefficient_past : (t : ℕ × ℤ) (ts : List (ℕ × ℤ)) (j : ℕ) → IsTrue (ascends_by number_of (t ∷ ts)) → j ≤ t.0 → coefficient ts j ≡ pos 0
coefficient_past t [] j h le = refl
coefficient_past t (u ∷ us) j h le =
    let p = ascends_next number_of t u us h in
    let after : j < u.0 = omega (arith, p.0) in
    rw (share_after u.0 j u.1 after, coefficient_past u us j p.1 (omega arith)) refl

-- the terms before the one at i have none of its column
pub coefficient_before : (ts : List (ℕ × ℤ)) (i : ℕ) (d : ℕ × ℤ) → IsTrue (ascends_by number_of ts) → i < length ts → coefficient (take i ts) (get_or ts i d).0 ≡ pos 0
coefficient_before [] i d h within = absurd (omega arith)
coefficient_before (t ∷ ts) zero d h within = refl
coefficient_before (t ∷ ts) (suc i) d h within =
    let below = ascends_below number_of t ts i d h (omega arith) in
    rw (share_before t.0 (get_or ts i d).0 t.1 below, coefficient_before ts i d (ascends_tail number_of t ts h) (omega arith)) refl

share_small : (b : Bool) (v : ℤ) (n : ℕ) → unsigned_abs v ≤ n → unsigned_abs (cond b v (pos 0) +ℤ pos 0) ≤ n
share_small true v n h = omega (arith, ints)
share_small false v n h = omega (arith, ints)

pub coefficient_small : (ts : List (ℕ × ℤ)) (j : ℕ) → IsTrue (ascends_by number_of ts) → AllByRecursion (λ t. FitsCase t.1) ts → FitsCase (coefficient ts j)
coefficient_small [] j h fit = omega arith
coefficient_small (t ∷ ts) j h fit =
    elim (cases_lt t.0 j) as (λ _. unsigned_abs (share t j +ℤ coefficient ts j) ≤ 2 ^ 52) [
      | inl before ↦ rw (share_before t.0 j t.1 before, +ℤ_idl (coefficient ts j)) (coefficient_small ts j (ascends_tail number_of t ts h) fit.1)
      | inr past ↦ rw (coefficient_past t ts j h past) (share_small (eqb t.0 j) t.1 (2 ^ 52) fit.0)
    ]

constraint_small : (a : Instance) (k j : ℕ) → IsCase a → k < length a.constraints → FitsCase (coefficient (constraint_at a k).terms j)
constraint_small a k j kept h =
    let c = constraint_of_case a k kept h in
    let fit : All (λ t. FitsCase t.1) (constraint_at a k).terms = λ n d lt. (c.coefficients n d lt).0 in
    coefficient_small (constraint_at a k).terms j c.ascending (recursion_from_All (λ t. FitsCase t.1) (constraint_at a k).terms fit)

-- the multipliers of a case are few
few_multipliers : (a : Instance) (mult : List (ℕ × ℤ)) → IsCase a → AreMultipliers a mult → length mult ≤ 2000
few_multipliers a mult kept h = omega (arith, few_ascending number_of (length a.constraints) mult h.ascending h.constraints_named, kept.few_constraints)

-- the sum of the first i of them, each times a number of its constraint
first_small : (a : Instance) (f : ℕ × ℤ → ℤ) (mult : List (ℕ × ℤ)) (i : ℕ) → IsCase a → AreMultipliers a mult → ((m : ℕ × ℤ) → m.0 < length a.constraints → FitsCase (f m)) → unsigned_abs (sum_over (λ m. m.1 *ℤ f m) (take i mult)) < 2 ^ 126
first_small a f mult i kept h fit =
    let P = λ (m : ℕ × ℤ). (unsigned_abs m.1 ≤ 2 ^ 63) × (unsigned_abs (f m) ≤ 2 ^ 52) in
    let both : All P mult = λ n d lt. (omega (arith, (h.numbers n d lt).0), fit (get_or mult n d) (h.constraints_named n d lt)) in
    let some = recursion_from_All P (take i mult) (All-take P i mult both) in
    omega (arith, products_small (λ (m : ℕ × ℤ). m.1) f (2 ^ 63) (2 ^ 52) (take i mult) some, few_multipliers a mult kept h, length-take i mult)

pub column_sum_small : (a : Instance) (mult : List (ℕ × ℤ)) (i j : ℕ) → IsCase a → AreMultipliers a mult → unsigned_abs (column_sum a (take i mult) j) < 2 ^ 126
column_sum_small a mult i j kept h = first_small a (λ m. coefficient (constraint_at a m.0).terms j) mult i kept h (λ m named. constraint_small a m.0 j kept named)

pub right_sum_small : (a : Instance) (mult : List (ℕ × ℤ)) (i : ℕ) → IsCase a → AreMultipliers a mult → unsigned_abs (right_sum a (take i mult)) < 2 ^ 126
right_sum_small a mult i kept h = first_small a (λ m. (constraint_at a m.0).rhs) mult i kept h (λ m named. (constraint_of_case a m.0 kept named).right)
