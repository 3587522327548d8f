-- Where no solution of a dictionary is narrow, the dictionary at its list is wide.
use Rattle.std.proofs.Common.{ℕ, ◌+◌, ◌*◌, ◌^◌, ◌<◌, ◌≤◌, ◌≡◌, ◌∙◌, sym, ap, subst, arith, ℤ, pos, ◌*ℤ◌, ◌<ℤ◌, List, length, Bool, true, false, cond, eqb, Option, Some, None, IfSome, inl, inr}
use Rattle.std.specs.Prelude.{unsigned_abs}
use Rattle.std.proofs.lemmas.Int.{ints, unsigned_abs-mul}
use Rattle.std.proofs.Math.Nat.{le_of_mul-le-mul_right, dvd-mul_left}
use Prim.Native.Nat.{◌∣◌}
use Rattle.lp_base.specs.Numbers.{IsNarrow}
use Rattle.lp_base.proofs.Ring.{abs_mul, mul_comm}
use Rattle.lp_nums.specs.Fractions.{Fraction}
use Rattle.lpcc_case.specs.Instance.{Instance}
use Rattle.lpcc_case.specs.Points.{coefficient}
use Rattle.dict.specs.Terms.{only}
use Rattle.dict.specs.Equations.{Equation}
use Rattle.dict.specs.Exchanges.{turn}
use Rattle.dict.specs.Dictionaries.{Dictionary, row_at, form_at}
use Rattle.dict.specs.Forms.{IsDictionaryAt, IsWideDictionary, affine_of, affine_at, with_rows}
use Rattle.dict.proofs.Determined.{IsSameRow, determined}
use Rattle.dict.proofs.Reduces.{number_constant, number_den, number_entry}
use Rattle.dict.proofs.SparseSums.{terms_below}
use Rattle.walks.specs.Duals.{IsPlaced}
use Rattle.walks.specs.Steps.{IsSized}
use Rattle.walks.proofs.Bases.{column_stands}
use Rattle.walks.proofs.Changes.{times_turn}
use Rattle.walks.proofs.Ends.{below_places}
use Rattle.walks.proofs.Signs.{turn_times}
use Rattle.basic_solutions.specs.Commons.{IsWideAlong, IsWideOver}
use Rattle.basic_solutions.specs.Readings.{AreReadings, den_in, shift, size_in, value_in, weight}
use Rattle.basic_solutions.specs.Solutions.{IsBasicPoint, IsDirection, IsWide, IsWidePoint}
use Rattle.basic_solutions.proofs.Fractions.{direction_solves, divides_size, fraction_times, large_size, point_solves, solved_column}

-- ---- the dictionary at the list

-- its row of the same form
same_row : (a : Instance) (d : Dictionary) (rows : List Equation) (i : ℕ) → IsSized a d → IsDictionaryAt a (with_rows rows d) → i < length d.rows → i < length rows → IsSameRow (row_at d.rows i) (row_at rows i)
same_row a d rows i sized t h inside =
    determined (length d.nonbasic) (row_at d.rows i) (row_at rows i) (affine_of a (form_at d.basic i)) (affine_at a d.nonbasic) sized.of.independent (below_places a d i sized h) (terms_below t.bound 0 (length d.nonbasic) (row_at rows i).entries (t.rows i inside).entries) (λ x one. sized.of.identities x one i h) (λ x one. t.of.identities x one i inside)

-- what is read from it, over its denominator, is what is read from the row
weight_by : (go : Option (ℕ × Bool)) (d : Dictionary) (rows : List Equation) (i : ℕ) (den : ℤ) → (row_at rows i).den ≡ den → IsSameRow (row_at d.rows i) (row_at rows i) → (row_at d.rows i).den *ℤ weight (with_rows rows d) go i ≡ weight d go i *ℤ den
weight_by None d rows i den e same = mul_comm (row_at d.rows i).den (row_at rows i).constant ∙ sym same.constant ∙ ap (λ z. (row_at d.rows i).constant *ℤ z) e
weight_by (Some go) d rows i den e same =
    times_turn go.1 (row_at d.rows i).den (coefficient (row_at rows i).entries go.0)
    ∙ ap (λ z. turn go.1 z) (mul_comm (row_at d.rows i).den (coefficient (row_at rows i).entries go.0) ∙ sym (same.entries go.0) ∙ ap (λ z. coefficient (row_at d.rows i).entries go.0 *ℤ z) e)
    ∙ sym (turn_times go.1 (coefficient (row_at d.rows i).entries go.0) den)

narrow_turned : (b : Bool) (z : ℤ) → IsNarrow z → IsNarrow (turn b z)
narrow_turned true z h = omega (arith, ints, h)
narrow_turned false z h = h

wide_by : (go : Option (ℕ × Bool)) (d : Dictionary) (rows : List Equation) (i : ℕ) → IfSome go (λ g. g.0 < length d.nonbasic) → i < length rows → (IsNarrow (weight (with_rows rows d) go i) → ⊥) → IsWideDictionary (with_rows rows d)
wide_by None d rows i within h wide = record {
  row = i;
  at = length d.nonbasic;
  within = h;
  wide = λ narrow. wide (subst (λ (z : ℤ). IsNarrow z) (number_constant (length d.nonbasic) (row_at rows i)) narrow);
}
wide_by (Some go) d rows i within h wide = record {
  row = i;
  at = go.0;
  within = h;
  wide = λ narrow. wide (narrow_turned go.1 (coefficient (row_at rows i).entries go.0) (subst (λ (z : ℤ). IsNarrow z) (number_entry (length d.nonbasic) go.0 (row_at rows i) within) narrow));
}

first_row : (a : Instance) (d : Dictionary) → IsPlaced a d → 0 < length d.rows
first_row a d placed = omega (arith, placed.size)

wide_denominator : (a : Instance) (d : Dictionary) (rows : List Equation) → IsPlaced a d → 0 < length rows → (t : IsDictionaryAt a (with_rows rows d)) → (IsNarrow t.den → ⊥) → IsWideDictionary (with_rows rows d)
wide_denominator a d rows placed h t wide = record {
  row = 0;
  at = length d.nonbasic + 1;
  within = h;
  wide = λ narrow. wide (subst (λ (z : ℤ). IsNarrow z) (number_den (length d.nonbasic) (row_at rows 0) ∙ t.one_den 0 h) narrow);
}

step_small : (b : Bool) → unsigned_abs (cond b (pos 1) (pos 0)) ≤ 1
step_small true = omega arith
step_small false = omega arith

turned_small : (b : Bool) (z : ℤ) → unsigned_abs z ≤ 1 → unsigned_abs (turn b z) ≤ 1
turned_small true z h = omega (arith, ints, h)
turned_small false z h = h

shift_small : (go : Option (ℕ × Bool)) (j : ℕ) → unsigned_abs (shift go j) ≤ 1
shift_small None j = omega arith
shift_small (Some go) j = turned_small go.1 (only go.0 j) (step_small (eqb j go.0))

narrow_shifted : (z den : ℤ) → unsigned_abs z ≤ 1 → IsNarrow den → IsNarrow (z *ℤ den)
narrow_shifted z den h narrow =
    let m = abs_mul z den 1 (unsigned_abs den) h (le_same (unsigned_abs den)) in
    omega (arith, m, narrow)
  where
    le_same : (n : ℕ) → n ≤ n
    le_same n = omega arith

one_times : (z : ℤ) → pos 1 *ℤ z ≡ z
one_times z = omega (arith, ints)

-- the number of a column there
pub at_list : (a : Instance) (d : Dictionary) (go : Option (ℕ × Bool)) (values : List Fraction) (rows : List Equation) (c : ℕ) → IsSized a d → IsPlaced a d → IfSome go (λ g. g.0 < length d.nonbasic) → AreReadings a d go values → (t : IsDictionaryAt a (with_rows rows d)) → c < a.columns → (y : ℤ) × (y *ℤ (value_in values c).den ≡ (value_in values c).num *ℤ t.den) × ((IsNarrow y → ⊥) → IsWideDictionary (with_rows rows d))
at_list a d go values rows c sized placed within read t h =
    elim (column_stands a d c sized.of h) [
      | inl n ↦
          let first : 0 < length rows = omega (arith, first_row a d placed, t.size, sized.size) in (
            shift go n.0 *ℤ t.den,
            fraction_times (shift go n.0) (pos 1) (shift go n.0 *ℤ t.den) t.den (value_in values c) (read.nonbasic n.0 c n.1 n.2) (omega (arith, ints)) (one_times (shift go n.0 *ℤ t.den)),
            λ wide. wide_denominator a d rows placed first t (λ narrow. wide (narrow_shifted (shift go n.0) t.den (shift_small go n.0) narrow)),
          )
      | inr b ↦
          let inside : b.0 < length d.rows = omega (arith, b.1, sized.size) in
          let there : b.0 < length rows = omega (arith, b.1, t.size) in (
            weight (with_rows rows d) go b.0,
            fraction_times (weight d go b.0) (row_at d.rows b.0).den (weight (with_rows rows d) go b.0) t.den (value_in values c) (read.basic b.0 c inside b.2) (sized.rows b.0 inside).positive (weight_by go d rows b.0 t.den (t.one_den b.0 there) (same_row a d rows b.0 sized t inside there)),
            wide_by go d rows b.0 within there,
          )
    ]

den_above : (a : Instance) (d : Dictionary) (rows : List Equation) → IsSized a d → IsPlaced a d → (t : IsDictionaryAt a (with_rows rows d)) → 0 < unsigned_abs t.den
den_above a d rows sized placed t =
    let first : 0 < length rows = omega (arith, first_row a d placed, t.size, sized.size) in
    omega (arith, ints, (t.rows 0 first).positive, t.one_den 0 first)

frac_positive : (a : Instance) (d : Dictionary) (go : Option (ℕ × Bool)) (values : List Fraction) (c : ℕ) → IsSized a d → AreReadings a d go values → c < length values → pos 0 <ℤ (value_in values c).den
frac_positive a d go values c sized read lt = let f = Rattle.basic_solutions.proofs.Fractions.readings_narrow a d go values sized read c lt in omega (arith, ints, f.0.positive)

pub point_wide : (a : Instance) (d : Dictionary) (values : List Fraction) → IsSized a d → IsPlaced a d → AreReadings a d None values → IsWideOver (length values) (size_in values) (den_in values) → (rows : List Equation) → IsDictionaryAt a (with_rows rows d) → IsWideDictionary (with_rows rows d)
point_wide a d values sized placed read wide rows t =
    let there : (c : ℕ) → c < length values → c < a.columns = λ c lt. omega (arith, lt, read.size) in
    let first : 0 < length rows = omega (arith, first_row a d placed, t.size, sized.size) in
    elim (wide (unsigned_abs t.den) (den_above a d rows sized placed t) (λ c lt. let y = at_list a d None values rows c sized placed tt read t (there c lt) in divides_size y.0 t.den (value_in values c) y.1)) [
      | inl large ↦ wide_denominator a d rows placed first t (λ narrow. omega (arith, large, narrow))
      | inr some ↦
          let y = at_list a d None values rows some.0 sized placed tt read t (there some.0 some.1) in
          y.2 (large_size y.0 t.den (value_in values some.0) (frac_positive a d None values some.0 sized read some.1) y.1 some.2)
    ]

pub ray_wide : (a : Instance) (d : Dictionary) (e : ℕ) (down : Bool) (values : List Fraction) → IsSized a d → IsPlaced a d → e < length d.nonbasic → AreReadings a d (Some (e, down)) values → IsWideAlong (length values) (size_in values) (den_in values) → (rows : List Equation) → IsDictionaryAt a (with_rows rows d) → IsWideDictionary (with_rows rows d)
ray_wide a d e down values sized placed within read wide rows t =
    let there : (c : ℕ) → c < length values → c < a.columns = λ c lt. omega (arith, lt, read.size) in
    let one : (n : ℕ) → n ≡ 1 * n = λ n. omega arith in
    let some = wide (unsigned_abs t.den) 1 (den_above a d rows sized placed t) (omega arith)
    (λ c lt.
    let y = at_list a d (Some (e, down)) values rows c sized placed within read t (there c lt) in
    subst (λ (n : ℕ). n ∣ size_in values c * unsigned_abs t.den) (one (den_in values c)) (divides_size y.0 t.den (value_in values c) y.1)) in
    let y = at_list a d (Some (e, down)) values rows some.0 sized placed within read t (there some.0 some.1) in
    y.2 (large_size y.0 t.den (value_in values some.0) (frac_positive a d (Some (e, down)) values some.0 sized read some.1) y.1 (omega (arith, some.2)))

-- ---- any solution

pub point_none : (a : Instance) (d : Dictionary) (values : List Fraction) → IsSized a d → AreReadings a d None values → IsWideOver (length values) (size_in values) (den_in values) → (x : ℕ → ℤ) (one : ℤ) → pos 0 <ℤ one → IsBasicPoint d x one → IsWidePoint a.columns x one
point_none a d values sized read wide x one positive base =
    let there : (c : ℕ) → c < length values → c < a.columns = λ c lt. omega (arith, lt, read.size) in
    let is : (c : ℕ) → c < length values → x c *ℤ (value_in values c).den ≡ (value_in values c).num *ℤ one = λ c lt. solved_column a d None values one x c sized read (point_solves a d x one base) (there c lt) in
    elim (wide (unsigned_abs one) (omega (arith, ints, positive)) (λ c lt. divides_size (x c) one (value_in values c) (is c lt))) [
      | inl large ↦ inl (λ narrow. omega (arith, large, narrow))
      | inr some ↦ inr (some.0, there some.0 some.1, large_size (x some.0) one (value_in values some.0) (frac_positive a d None values some.0 sized read some.1) (is some.0 some.1) some.2)
    ]

sizes : (x num den : ℤ) (b s : ℕ) → (x *ℤ pos b) *ℤ den ≡ num *ℤ pos s → unsigned_abs x * (b * unsigned_abs den) ≡ unsigned_abs num * s
sizes x num den b s e =
    let f : (unsigned_abs x * b) * unsigned_abs den ≡ unsigned_abs num * s = ap (λ n. n * unsigned_abs den) (sym (unsigned_abs-mul x (pos b))) ∙ sym (unsigned_abs-mul (x *ℤ pos b) den) ∙ ap unsigned_abs e ∙ unsigned_abs-mul num (pos s) in
    omega (arith, f)

pub ray_none : (a : Instance) (d : Dictionary) (e : ℕ) (down : Bool) (values : List Fraction) → IsSized a d → AreReadings a d (Some (e, down)) values → IsWideAlong (length values) (size_in values) (den_in values) → (x : ℕ → ℤ) → IsDirection d down e x → IsWide a.columns x
ray_none a d e down values sized read wide x direction =
    let there : (c : ℕ) → c < length values → c < a.columns = λ c lt. omega (arith, lt, read.size) in
    let b = direction.times in
    let s = direction.step in
    let is : (c : ℕ) → c < length values → unsigned_abs (x c) * (b * den_in values c) ≡ size_in values c * s = λ c lt. sizes (x c) (value_in values c).num (value_in values c).den b s (solved_column a d (Some (e, down)) values (pos s) (λ i. x i *ℤ pos b) c sized read (direction_solves a d down e s (λ i. x i *ℤ pos b) direction.base) (there c lt)) in
    let some = wide s b direction.goes direction.positive (λ c lt. subst (λ (n : ℕ). b * den_in values c ∣ n) (is c lt) (dvd-mul_left (b * den_in values c) (unsigned_abs (x c)))) in
    let c = some.0 in
    let positive : 0 < den_in values c = omega (arith, ints, frac_positive a d (Some (e, down)) values c sized read some.1) in
    let h : 2 ^ 63 * (b * den_in values c) ≤ unsigned_abs (x c) * (b * den_in values c) = omega (arith, some.2, is c some.1) in
    let up : 2 ^ 63 ≤ unsigned_abs (x c) = le_of_mul-le-mul_right h (product_positive b (den_in values c) direction.positive positive) in
    (c, there c some.1, λ narrow. omega (arith, up, narrow))
  where
    product_positive : (a b : ℕ) → 0 < a → 0 < b → 0 < a * b
    product_positive a b ha hb = omega (arith, Rattle.std.proofs.Math.Nat.mul-le-mul (one_le a ha) (one_le b hb))
      where
        one_le : (a : ℕ) → 0 < a → 1 ≤ a
        one_le a h = omega (arith, h)
