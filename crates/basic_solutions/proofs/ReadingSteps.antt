-- The fractions of the columns, read row by row.
use Rattle.std.proofs.Common.{ℕ, ◌+◌, ◌<◌, ◌≤◌, ◌^◌, ◌≡◌, ◌∙◌, refl, sym, ap, subst, arith, ℤ, pos, List, length, set, Bool, true, false, Option, Some, None}
use Rattle.std.specs.Prelude.{unsigned_abs}
use Rattle.std.proofs.lemmas.Int.{ints}
use Rattle.std.proofs.lemmas.List.{get_or-set_same, get_or-set_other, length-set}
use Rattle.std.proofs.Math.Nat.{one-dvd}
use Rattle.lp_nums.specs.Fractions.{Fraction}
use Rattle.lpcc_case.specs.declared.form.Form.{Form}
use Rattle.lpcc_case.specs.declared.form.Form.TheVariants.{Col, Con, Cost}
use Rattle.lpcc_case.specs.Instance.{Instance}
use Rattle.dict.specs.Terms.{only}
use Rattle.dict.specs.Exchanges.{turn}
use Rattle.dict.specs.Dictionaries.{Dictionary, row_at, form_at}
use Rattle.dict.proofs.Pivots.{by_eq, by_lt}
use Rattle.dict.proofs.SparseSums.{only_same, only_apart}
use Rattle.walks.specs.Duals.{IsNamed, IsPlaced}
use Rattle.walks.specs.Steps.{IsSized}
use Rattle.walks.proofs.Sets.{distinct_from}
use Rattle.walks.proofs.Signs.{turn_none}
use Rattle.walks.proofs.Unique.{apart}
use Rattle.walks.proofs.Walks.{one_row}
use Rattle.basic_solutions.specs.Readings.{AreReadUpto, IsFractionOf, IsRowRead, fraction, shift, value_in, weight}
use Rattle.basic_solutions.specs.Writes.{with_fraction}

-- ---- columns

named_column : (a : Instance) (f : Form) (c : ℕ) → IsNamed a f → f ≡ Col c → c < a.columns
named_column a f c named e = subst (λ (g : Form). IsNamed a g) e named

not_cost : (c : ℕ) → Cost ≡ Col c → ⊥
not_cost c e = cc

pub basic_column : (a : Instance) (d : Dictionary) (i c : ℕ) → IsPlaced a d → i < length d.rows → form_at d.basic i ≡ Col c → c < a.columns
basic_column a d i c placed h form =
    by_lt i (length a.constraints) (λ lt. named_column a (form_at d.basic i) c (placed.basic i lt) form)
    (λ ge.
    let last : length a.constraints ≡ i = omega (arith, ge, h, placed.size) in
    absurd (not_cost c (sym placed.cost ∙ ap (λ n. form_at d.basic n) last ∙ form)))

pub nonbasic_column : (a : Instance) (d : Dictionary) (j c : ℕ) → IsPlaced a d → j < length d.nonbasic → form_at d.nonbasic j ≡ Col c → c < a.columns
nonbasic_column a d j c placed h form = named_column a (form_at d.nonbasic j) c (placed.nonbasic j h) form

-- ---- the start

whole_is : (z : ℤ) → unsigned_abs z < 2 ^ 63 → IsFractionOf z (pos 1) (fraction z (pos 1))
whole_is z h = record {
  lowest = record { positive = omega (arith, ints); lowest = (one-dvd (unsigned_abs z), one-dvd 1, λ d p q. q) };
  narrow_num = h;
  narrow_den = omega arith;
  same = refl;
}

moved : (z y : ℤ) (f : Fraction) → z ≡ y → f ≡ fraction z (pos 1) → unsigned_abs z < 2 ^ 63 → IsFractionOf y (pos 1) f
moved z y f ez ef h = subst (λ (w : ℤ). IsFractionOf w (pos 1) f) ez (subst (λ (g : Fraction). IsFractionOf z (pos 1) g) (sym ef) (whole_is z h))

pub start_none : (a : Instance) (d : Dictionary) (values : List Fraction) → length values ≡ a.columns → ((c : ℕ) → value_in values c ≡ fraction (pos 0) (pos 1)) → AreReadUpto a d None values 0
start_none a d values size zero_all = record {
  size = size;
  basic = λ i c lt form. absurd (omega (arith, lt));
  nonbasic = λ j c lt form. moved (pos 0) (pos 0) (value_in values c) refl (zero_all c) (omega arith);
}

turned_small : (b : Bool) (z : ℤ) → unsigned_abs z ≤ 1 → unsigned_abs (turn b z) < 2 ^ 63
turned_small true z h = omega (arith, ints, h)
turned_small false z h = omega (arith, h)

start_by : (a : Instance) (d : Dictionary) (e : ℕ) (down : Bool) (f : Form) (values : List Fraction) → IsSized a d → IsPlaced a d → e < length d.nonbasic → form_at d.nonbasic e ≡ f → length values ≡ a.columns → ((c : ℕ) → value_in values c ≡ fraction (pos 0) (pos 1)) → AreReadUpto a d (Some (e, down)) (with_fraction values f (fraction (turn down (pos 1)) (pos 1))) 0
start_by a d e down (Col c0) values sized placed he here size zero_all =
    let step = fraction (turn down (pos 1)) (pos 1) in
    let inside : c0 < length values = omega (arith, nonbasic_column a d e c0 placed he here, size) in
    record {
      size = length-set values c0 step ∙ size;
      basic = λ i c lt form. absurd (omega (arith, lt));
      nonbasic = λ j c lt form.
          by_eq j e
          (λ same.
          let column : c ≡ c0 = same_column c c0 (sym form ∙ ap (λ n. form_at d.nonbasic n) same ∙ here) in
          moved (turn down (pos 1)) (turn down (only e j)) (value_in (set values c0 step) c) (ap (λ z. turn down z) (sym (ap (only e) same ∙ only_same e))) (ap (λ n. value_in (set values c0 step) n) column ∙ get_or-set_same values c0 step (fraction (pos 0) (pos 1)) inside) (turned_small down (pos 1) (omega arith)))
          (λ other.
          let apart_columns : c ≡ c0 → ⊥ = λ column. other (distinct_from a d.nonbasic sized.of.independent j e lt he (form ∙ ap Col column ∙ sym here)) in
          moved (pos 0) (turn down (only e j)) (value_in (set values c0 step) c) (sym (ap (λ z. turn down z) (only_apart e j other) ∙ turn_none down)) (get_or-set_other values c0 c step (fraction (pos 0) (pos 1)) apart_columns ∙ zero_all c) (omega arith));
    }
  where
    same_column : (c k : ℕ) → Col c ≡ Col k → c ≡ k
    same_column c k e = cc
start_by a d e down (Con k) values sized placed he here size zero_all = record {
  size = size;
  basic = λ i c lt form. absurd (omega (arith, lt));
  nonbasic = λ j c lt form. moved (pos 0) (turn down (only e j)) (value_in values c) (sym (ap (λ z. turn down z) (only_apart e j (λ same. differ k c (sym here ∙ ap (λ n. form_at d.nonbasic n) (sym same) ∙ form))) ∙ turn_none down)) (zero_all c) (omega arith);
}
  where
    differ : (k c : ℕ) → Con k ≡ Col c → ⊥
    differ k c e = cc
start_by a d e down Cost values sized placed he here size zero_all = absurd (subst (λ (f : Form). IsNamed a f) here (placed.nonbasic e he))

pub start_some : (a : Instance) (d : Dictionary) (e : ℕ) (down : Bool) (step : Fraction) (f : Form) (values values' : List Fraction) → IsSized a d → IsPlaced a d → e < length d.nonbasic → f ≡ form_at d.nonbasic e → step ≡ fraction (turn down (pos 1)) (pos 1) → values' ≡ with_fraction values f step → length values ≡ a.columns → ((c : ℕ) → value_in values c ≡ fraction (pos 0) (pos 1)) → AreReadUpto a d (Some (e, down)) values' 0
start_some a d e down step f values values' sized placed he here es made size zero_all =
    subst (λ (vs : List Fraction). AreReadUpto a d (Some (e, down)) vs 0) (sym (made ∙ ap (λ s. with_fraction values f s) es)) (start_by a d e down f values sized placed he (sym here) size zero_all)

-- ---- a row

pub row_more : (a : Instance) (d : Dictionary) (go : Option (ℕ × Bool)) (i : ℕ) (before after : List Fraction) → IsSized a d → i < length d.rows → IsRowRead d go i before after → AreReadUpto a d go before i → AreReadUpto a d go after (i + 1)
row_more a d go i before after sized hi read upto = record {
  size = read.size ∙ upto.size;
  basic = λ k c lt form.
      by_eq k i
      (λ same.
      let here = read.here c (ap (λ n. form_at d.basic n) (sym same) ∙ form) in
      subst (λ (n : ℕ). IsFractionOf (weight d go n) (row_at d.rows n).den (value_in after c)) (sym same) here)
      (λ other.
      let hk : k < i = omega (arith, lt, other) in
      let kept = read.others c (λ e. other (one_row a d k i sized (omega (arith, hk, hi)) hi (form ∙ sym e))) in
      subst (λ (f : Fraction). IsFractionOf (weight d go k) (row_at d.rows k).den f) (sym kept) (upto.basic k c hk form));
  nonbasic = λ j c lt form.
      let kept = read.others c (λ e. apart a d j i sized.of lt (omega (arith, hi, sized.size)) (form ∙ sym e)) in
      subst (λ (f : Fraction). IsFractionOf (shift go j) (pos 1) f) (sym kept) (upto.nonbasic j c lt form);
}
