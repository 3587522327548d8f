-- What the columns are worth at a point or in a direction of a dictionary, as fractions.
use Rattle.std.proofs.Common.{ℕ, ◌*◌, ◌^◌, ◌<◌, ◌≤◌, ◌≡◌, ◌∙◌, refl, sym, ap, subst, arith, ℤ, pos, ◌*ℤ◌, ◌<ℤ◌, List, [], ◌∷◌, length, Bool, Option, Some, None, inl, inr}
use Prim.Native.Nat.{◌∣◌}
use Rattle.std.specs.Prelude.{unsigned_abs}
use Rattle.std.proofs.lemmas.Int.{ints, unsigned_abs-mul}
use Rattle.std.proofs.Math.IntN.{zero-*ℤ, *ℤ-zero}
use Rattle.std.proofs.Math.Nat.{dvd-mul_left, le_of_mul-le-mul_right}
use Rattle.lp_base.specs.Numbers.{IsNarrow}
use Rattle.lp_base.proofs.Ring.{mul_add_right, mul_assoc, mul_comm, mul_swap, mul_cancel_right}
use Rattle.lp_nums.specs.Fractions.{Fraction}
use Rattle.lpcc_case.specs.declared.form.Form.TheVariants.{Col}
use Rattle.lpcc_case.specs.Instance.{Instance}
use Rattle.lpcc_case.specs.Points.{coefficient}
use Rattle.dict.specs.Terms.{weigh, only}
use Rattle.dict.specs.Exchanges.{turn}
use Rattle.dict.specs.Dictionaries.{Dictionary, row_at, form_at}
use Rattle.dict.proofs.Machine.{is_pos}
use Rattle.dict.proofs.SparseSums.{weigh_none, weigh_only}
use Rattle.walks.specs.Bases.{IsBase}
use Rattle.walks.specs.Steps.{IsSized}
use Rattle.walks.proofs.Bases.{column_stands}
use Rattle.walks.proofs.Signs.{weigh_turn}
use Rattle.basic_solutions.specs.Readings.{AreReadings, AreNarrowFractions, IsFractionOf, shift, value_in, weight}

-- ---- one column

-- p / q = w / t and t y = w s say y q = p s
cross : (p q w t y s : ℤ) → p *ℤ t ≡ w *ℤ q → t *ℤ y ≡ w *ℤ s → pos 0 <ℤ t → y *ℤ q ≡ p *ℤ s
cross p q w t y s e h ht =
    let k = is_pos t ht in
    let a : (y *ℤ q) *ℤ t ≡ (p *ℤ s) *ℤ t =
    mul_swap y q t
    ∙ ap (λ z. z *ℤ q) (mul_comm y t ∙ h)
    ∙ mul_swap w s q
    ∙ ap (λ z. z *ℤ s) (sym e)
    ∙ mul_swap p t s in
    mul_cancel_right (unsigned_abs t) (y *ℤ q) (p *ℤ s) (omega (arith, ints, ht)) (subst (λ (z : ℤ). (y *ℤ q) *ℤ z ≡ (p *ℤ s) *ℤ z) k a)

den_positive : (w t : ℤ) (f : Fraction) → IsFractionOf w t f → pos 0 <ℤ f.den
den_positive w t f is = omega (arith, ints, is.lowest.positive)

-- a number y of which t times is w s is f times s
pub fraction_times : (w t y s : ℤ) (f : Fraction) → IsFractionOf w t f → pos 0 <ℤ t → t *ℤ y ≡ w *ℤ s → y *ℤ f.den ≡ f.num *ℤ s
fraction_times w t y s f is ht h = cross f.num f.den w t y s is.same h ht

pub times_fraction : (w t y s : ℤ) (f : Fraction) → IsFractionOf w t f → y *ℤ f.den ≡ f.num *ℤ s → t *ℤ y ≡ w *ℤ s
times_fraction w t y s f is h = mul_comm t y ∙ cross w t f.num f.den y s (sym is.same) (mul_comm f.den y ∙ h) (den_positive w t f is)

pub divides_size : (y s : ℤ) (f : Fraction) → y *ℤ f.den ≡ f.num *ℤ s → unsigned_abs f.den ∣ unsigned_abs f.num * unsigned_abs s
divides_size y s f e =
    let x : unsigned_abs y * unsigned_abs f.den ≡ unsigned_abs f.num * unsigned_abs s = sym (unsigned_abs-mul y f.den) ∙ ap unsigned_abs e ∙ unsigned_abs-mul f.num s in
    subst (λ (n : ℕ). unsigned_abs f.den ∣ n) x (dvd-mul_left (unsigned_abs f.den) (unsigned_abs y))

pub large_size : (y s : ℤ) (f : Fraction) → pos 0 <ℤ f.den → y *ℤ f.den ≡ f.num *ℤ s → 2 ^ 63 * unsigned_abs f.den ≤ unsigned_abs f.num * unsigned_abs s → IsNarrow y → ⊥
large_size y s f hd e large narrow =
    let x : unsigned_abs y * unsigned_abs f.den ≡ unsigned_abs f.num * unsigned_abs s = sym (unsigned_abs-mul y f.den) ∙ ap unsigned_abs e ∙ unsigned_abs-mul f.num s in
    let h : 2 ^ 63 * unsigned_abs f.den ≤ unsigned_abs y * unsigned_abs f.den = omega (arith, large, x) in
    let k : 2 ^ 63 ≤ unsigned_abs y = le_of_mul-le-mul_right h (omega (arith, ints, hd)) in
    omega (arith, k, narrow)

-- ---- all columns

row_positive : (a : Instance) (d : Dictionary) (i : ℕ) → IsSized a d → i < length d.rows → pos 0 <ℤ (row_at d.rows i).den
row_positive a d i sized h = (sized.rows i h).positive

one_positive : pos 0 <ℤ pos 1
one_positive = omega (arith, ints)

-- numbers of which each is what its row or its place says
pub record Solves (a : Instance) (d : Dictionary) (go : Option (ℕ × Bool)) (s : ℤ) (y : ℕ → ℤ) : Type 0 where
  pub basic : (i c : ℕ) → i < length d.rows → form_at d.basic i ≡ Col c → (row_at d.rows i).den *ℤ y c ≡ weight d go i *ℤ s
  pub nonbasic : (j c : ℕ) → j < length d.nonbasic → form_at d.nonbasic j ≡ Col c → y c ≡ shift go j *ℤ s

one_times : (z : ℤ) → pos 1 *ℤ z ≡ z
one_times z = omega (arith, ints)

-- each is its fraction times s
pub solved_column : (a : Instance) (d : Dictionary) (go : Option (ℕ × Bool)) (values : List Fraction) (s : ℤ) (y : ℕ → ℤ) (c : ℕ) → IsSized a d → AreReadings a d go values → Solves a d go s y → c < a.columns → y c *ℤ (value_in values c).den ≡ (value_in values c).num *ℤ s
solved_column a d go values s y c sized read solves h =
    elim (column_stands a d c sized.of h) [
      | inl n ↦ fraction_times (shift go n.0) (pos 1) (y c) s (value_in values c) (read.nonbasic n.0 c n.1 n.2) one_positive (one_times (y c) ∙ solves.nonbasic n.0 c n.1 n.2)
      | inr b ↦
          let inside : b.0 < length d.rows = omega (arith, b.1, sized.size) in
          fraction_times (weight d go b.0) (row_at d.rows b.0).den (y c) s (value_in values c) (read.basic b.0 c inside b.2) (row_positive a d b.0 sized inside) (solves.basic b.0 c inside b.2)
    ]

-- and the other way round
pub column_solved : (a : Instance) (d : Dictionary) (go : Option (ℕ × Bool)) (values : List Fraction) (s : ℤ) (y : ℕ → ℤ) → AreReadings a d go values → ((i c : ℕ) → i < length d.rows → form_at d.basic i ≡ Col c → y c *ℤ (value_in values c).den ≡ (value_in values c).num *ℤ s) → ((j c : ℕ) → j < length d.nonbasic → form_at d.nonbasic j ≡ Col c → y c *ℤ (value_in values c).den ≡ (value_in values c).num *ℤ s) → Solves a d go s y
column_solved a d go values s y read basic nonbasic = record {
  basic = λ i c lt form. times_fraction (weight d go i) (row_at d.rows i).den (y c) s (value_in values c) (read.basic i c lt form) (basic i c lt form);
  nonbasic = λ j c lt form. sym (one_times (y c)) ∙ times_fraction (shift go j) (pos 1) (y c) s (value_in values c) (read.nonbasic j c lt form) (nonbasic j c lt form);
}

-- all fractions are narrow
pub readings_narrow : (a : Instance) (d : Dictionary) (go : Option (ℕ × Bool)) (values : List Fraction) → IsSized a d → AreReadings a d go values → AreNarrowFractions values
readings_narrow a d go values sized read c lt =
    elim (column_stands a d c sized.of (omega (arith, lt, read.size))) [
      | inl n ↦ let f = read.nonbasic n.0 c n.1 n.2 in (f.lowest, f.narrow_num, f.narrow_den)
      | inr b ↦
          let inside : b.0 < length d.rows = omega (arith, b.1, sized.size) in
          let f = read.basic b.0 c inside b.2 in
          (f.lowest, f.narrow_num, f.narrow_den)
    ]

-- ---- the two kinds of solutions

-- a basic point
pub point_solves : (a : Instance) (d : Dictionary) (x : ℕ → ℤ) (one : ℤ) → IsBase d (λ j. pos 0) x one → Solves a d None one x
point_solves a d x one base = record {
  basic = λ i c lt form. omega (arith, ints, base.basic i c lt form, weigh_none (row_at d.rows i).entries (λ j. pos 0) (λ j. refl));
  nonbasic = λ j c lt form. base.nonbasic j c lt form ∙ sym (zero-*ℤ one);
}

pub solves_point : (a : Instance) (d : Dictionary) (x : ℕ → ℤ) (one : ℤ) → Solves a d None one x → IsBase d (λ j. pos 0) x one
solves_point a d x one solves = record {
  basic = λ i c lt form. omega (arith, ints, solves.basic i c lt form, weigh_none (row_at d.rows i).entries (λ j. pos 0) (λ j. refl));
  nonbasic = λ j c lt form. solves.nonbasic j c lt form ∙ zero-*ℤ one;
}

pub weigh_times : (ts : List (ℕ × ℤ)) (v : ℕ → ℤ) (c : ℤ) → weigh ts (λ j. v j *ℤ c) ≡ weigh ts v *ℤ c
weigh_times [] v c = sym (zero-*ℤ c)
weigh_times (t ∷ ts) v c = omega (arith, ints, mul_assoc t.1 (v t.0) c, weigh_times ts v c, mul_add_right c (t.1 *ℤ v t.0) (weigh ts v))

pub weigh_step : (ts : List (ℕ × ℤ)) (down : Bool) (e s : ℕ) → weigh ts (λ j. turn down (only e j) *ℤ pos s) ≡ turn down (coefficient ts e) *ℤ pos s
weigh_step ts down e s =
    weigh_times ts (λ j. turn down (only e j)) (pos s) ∙ ap (λ z. z *ℤ pos s) (weigh_turn down ts (only e) ∙ ap (λ z. turn down z) (weigh_only ts e))

-- a direction
pub direction_solves : (a : Instance) (d : Dictionary) (down : Bool) (e s : ℕ) (x : ℕ → ℤ) → IsBase d (λ j. turn down (only e j) *ℤ pos s) x (pos 0) → Solves a d (Some (e, down)) (pos s) x
direction_solves a d down e s x base = record {
  basic = λ i c lt form. omega (arith, ints, base.basic i c lt form, weigh_step (row_at d.rows i).entries down e s, *ℤ-zero (row_at d.rows i).constant);
  nonbasic = λ j c lt form. base.nonbasic j c lt form;
}

pub solves_direction : (a : Instance) (d : Dictionary) (down : Bool) (e s : ℕ) (x : ℕ → ℤ) → Solves a d (Some (e, down)) (pos s) x → IsBase d (λ j. turn down (only e j) *ℤ pos s) x (pos 0)
solves_direction a d down e s x solves = record {
  basic = λ i c lt form. omega (arith, ints, solves.basic i c lt form, weigh_step (row_at d.rows i).entries down e s, *ℤ-zero (row_at d.rows i).constant);
  nonbasic = λ j c lt form. solves.nonbasic j c lt form;
}
