-- The points and the directions that fractions over one denominator give.
use Rattle.std.proofs.Common.{ℕ, ◌<◌, ◌≡◌, ◌∙◌, refl, sym, ap, subst, arith, ℤ, pos, ◌*ℤ◌, ◌≤ℤ◌, List, ◌∷◌, length, Bool, true, false, Some, None}
use Rattle.std.specs.Prelude.{unsigned_abs}
use Rattle.std.proofs.lemmas.Int.{ints}
use Rattle.std.proofs.lemmas.List.{get_or_default}
use Rattle.std.proofs.Math.IntN.{zero-*ℤ, *ℤ-zero}
use Rattle.lp_base.specs.Numbers.{IsNarrow}
use Rattle.lp_base.specs.Sums.{dot}
use Rattle.lp_nums.specs.Fractions.{Fraction}
use Rattle.lpcc_case.specs.Cases.{IsCase}
use Rattle.lpcc_case.specs.NarrowPoints.{AreNumbersOf, IsPointOf}
use Rattle.lpcc_case.specs.declared.form.Form.{Form}
use Rattle.lpcc_case.specs.declared.form.Form.TheVariants.{Col, Con, Cost}
use Rattle.lpcc_case.specs.Instance.{Instance, constraint_at}
use Rattle.dict.specs.Terms.{only}
use Rattle.dict.specs.Exchanges.{turn}
use Rattle.dict.specs.Dictionaries.{Dictionary, form_at}
use Rattle.dict.specs.Forms.{affine_of}
use Rattle.dict.proofs.Machine.{is_pos}
use Rattle.dict.proofs.SparseSums.{weigh_none, only_same}
use Rattle.walks.specs.Divisors.{AreCoprime}
use Rattle.walks.specs.Duals.{IsNamed, IsPlaced}
use Rattle.walks.specs.Steps.{IsSized}
use Rattle.walks.proofs.Bases.{base_holds}
use Rattle.walks.proofs.Points.{rows_sized}
use Rattle.basic_solutions.specs.Readings.{AreAlong, AreNumbersUpto, AreOver, AreReadings, size_in, value_in}
use Rattle.basic_solutions.specs.Solutions.{IsBasicPoint, IsDirection, number_in}
use Rattle.basic_solutions.proofs.Fractions.{column_solved, solves_direction, solves_point}
use Rattle.basic_solutions.proofs.ReadingSteps.{basic_column, nonbasic_column}

-- ---- numbers of columns

pub numbers_of : (a : Instance) (values : List Fraction) (g d : ℕ) (xs : List ℤ) → length values ≡ a.columns → AreNumbersUpto values g d xs (length values) → AreNumbersOf a xs
numbers_of a values g d xs size numbers = record {
  size = numbers.size ∙ size;
  narrow = λ i e lt. subst (λ (z : ℤ). IsNarrow z) (get_or_default xs i (pos 0) e lt) (numbers.narrow i (omega (arith, lt, numbers.size)));
}

exact_one : (x num den d : ℤ) → pos 1 ≤ℤ d → (x *ℤ pos 1) *ℤ den ≡ num *ℤ pos (unsigned_abs d) → x *ℤ den ≡ num *ℤ d
exact_one x num den d h e =
    let k = is_pos d (omega (arith, ints, h)) in
    let one : x *ℤ pos 1 ≡ x = omega (arith, ints) in
    ap (λ z. z *ℤ den) (sym one) ∙ e ∙ ap (λ z. num *ℤ z) (sym k)

pub point_is_basic : (a : Instance) (d : Dictionary) (values : List Fraction) (one : ℤ) (xs : List ℤ) → IsPlaced a d → AreReadings a d None values → AreOver values one xs → IsBasicPoint d (number_in xs) one
point_is_basic a d values one xs placed read over =
    let exact : (c : ℕ) → c < a.columns → number_in xs c *ℤ (value_in values c).den ≡ (value_in values c).num *ℤ one = λ c lt. exact_one (number_in xs c) (value_in values c).num (value_in values c).den one over.positive (over.numbers.exact c (omega (arith, lt, read.size))) in
    solves_point a d (number_in xs) one (column_solved a d None values one (number_in xs) read (λ i c lt form. exact c (basic_column a d i c placed lt form)) (λ j c lt form. exact c (nonbasic_column a d j c placed lt form)))

pub ray_is_direction : (a : Instance) (d : Dictionary) (e : ℕ) (down : Bool) (values : List Fraction) (xs : List ℤ) → IsPlaced a d → AreReadings a d (Some (e, down)) values → AreAlong values xs → IsDirection d down e (number_in xs)
ray_is_direction a d e down values xs placed read along =
    let y : ℕ → ℤ = λ c. number_in xs c *ℤ pos along.g in
    let exact : (c : ℕ) → c < a.columns → y c *ℤ (value_in values c).den ≡ (value_in values c).num *ℤ pos along.d = λ c lt. along.numbers.exact c (omega (arith, lt, read.size)) in
    record {
      times = along.g;
      positive = along.some;
      step = along.d;
      goes = along.positive;
      base = solves_direction a d down e along.d y (column_solved a d (Some (e, down)) values (pos along.d) y read (λ i c lt form. exact c (basic_column a d i c placed lt form)) (λ j c lt form. exact c (nonbasic_column a d j c placed lt form)));
    }

-- ---- a direction goes somewhere

affine_none : (a : Instance) (f : Form) → IsNamed a f → affine_of a f (λ c. pos 0) (pos 0) ≡ pos 0
affine_none a (Col j) named = refl
affine_none a (Con k) named = omega (arith, ints, weigh_none (constraint_at a k).terms (λ c. pos 0) (λ j. refl), *ℤ-zero (constraint_at a k).rhs)
affine_none a Cost named = absurd named

some_step : (b : Bool) (z : ℤ) → z ≡ pos 1 → turn b z *ℤ pos 1 ≡ pos 0 → ⊥
some_step true z e h = omega (arith, ints, e, h)
some_step false z e h = omega (arith, ints, e, h)

zero_size : (num den : ℤ) → unsigned_abs num ≡ 0 → pos 0 *ℤ den ≡ num *ℤ pos 1
zero_size num den e = zero-*ℤ den ∙ sym (omega (arith, ints, e))

pub direction_goes : (a : Instance) (d : Dictionary) (e : ℕ) (down : Bool) (values : List Fraction) → IsCase a → IsSized a d → IsPlaced a d → e < length d.nonbasic → AreReadings a d (Some (e, down)) values → ((c : ℕ) → c < length values → size_in values c ≡ 0) → ⊥
direction_goes a d e down values kept sized placed within read all =
    let exact : (c : ℕ) → c < a.columns → pos 0 *ℤ (value_in values c).den ≡ (value_in values c).num *ℤ pos 1 = λ c lt. zero_size (value_in values c).num (value_in values c).den (all c (omega (arith, lt, read.size))) in
    let base = solves_direction a d down e 1 (λ c. pos 0) (column_solved a d (Some (e, down)) values (pos 1) (λ c. pos 0) read (λ i c lt form. exact c (basic_column a d i c placed lt form)) (λ j c lt form. exact c (nonbasic_column a d j c placed lt form))) in
    let worth = base_holds a d (λ j. turn down (only e j) *ℤ pos 1) (λ c. pos 0) (pos 0) e kept sized.of sized.size (rows_sized a d sized) base (placed.nonbasic e within) within in
    some_step down (only e e) (only_same e) (sym worth ∙ affine_none a (form_at d.nonbasic e) (placed.nonbasic e within))

-- ---- the same with numbers that the code reads again

pub point_again : (a : Instance) (d d' z z' : ℤ) (x x' : List ℤ) → d' ≡ d → z' ≡ z → x' ≡ x → AreNumbersOf a x → IsNarrow d → pos 1 ≤ℤ d → z ≡ dot a.cost x → IsPointOf a (record { d = d'; x = x'; z = z' })
point_again a d d' z z' x x' ed ez ex numbers narrow positive cost =
    let at : IsPointOf a (record { d = d; x = x; z = z }) = record { fits = record { numbers = numbers; narrow = narrow; positive = positive }; cost = cost } in
    subst (λ (y : ℤ). IsPointOf a (record { d = y; x = x'; z = z' })) (sym ed) (subst (λ (y : ℤ). IsPointOf a (record { d = d; x = x'; z = y })) (sym ez) (subst (λ (xs : List ℤ). IsPointOf a (record { d = d; x = xs; z = z })) (sym ex) at))

pub coprime_again : (d d' : ℤ) (x x' : List ℤ) → d' ≡ d → x' ≡ x → AreCoprime (d ∷ x) → AreCoprime (d' ∷ x')
coprime_again d d' x x' ed ex h = subst (λ (zs : List ℤ). AreCoprime zs) (sym (ap (λ z. z ∷ x') ed ∙ ap (λ xs. d ∷ xs) ex)) h
