-- What holds of the dictionaries of a case.
use Rattle.std.proofs.Common.{ℕ, ◌*◌, ◌^◌, ◌≤◌, ◌<◌, ◌≡◌, sym, subst, arith, ℤ, pos, ◌*ℤ◌, List, length}
use Rattle.std.proofs.lemmas.Int.{unsigned_abs-mul}
use Rattle.std.proofs.lemmas.List.{length-set}
use Rattle.std.proofs.Math.Nat.{mul-le-mul}
use Rattle.std.specs.Prelude.{unsigned_abs}
use Rattle.lp_base.specs.Numbers.{IsNarrow}
use Rattle.lpcc_case.specs.declared.form.Form.{Form}
use Rattle.lpcc_case.specs.Instance.{Instance}
use Rattle.dict.specs.Equations.{Equation, Holds, IsRow, IsMultiple, number_at}
use Rattle.dict.specs.Dictionaries.{Dictionary, row_at, form_at, IsDictionary, basic_after, nonbasic_after, IsWideRow}
use Rattle.dict.specs.Forms.{IsDictionaryOf, IsDictionaryAt, IsWideDictionary, affine_of, affine_at, with_rows, after_exchange}
use Rattle.dict.proofs.Reduces.{number_times}
use Rattle.dict.proofs.Dictionaries.{basic_other}
use Rattle.dict.proofs.Determined.{row_multiple}

pub row_at_list : (a : Instance) (places : ℕ) (d : Dictionary) (rows : List Equation) → IsDictionary places d → IsDictionaryOf a d → IsDictionaryAt a (with_rows rows d) → (i : ℕ) → i < length d.rows → IsMultiple (row_at d.rows i) (row_at rows i)
row_at_list a places d rows is of at i h =
    let inside : i < length rows = omega (arith, h, is.basic, at.size) in
    let row = is.rows i h in
    row_multiple (length d.nonbasic) (2 ^ 63) at.bound (row_at d.rows i) (row_at rows i) (affine_of a (form_at d.basic i)) (affine_at a d.nonbasic) of.independent (subst (λ (n : ℕ). IsRow (2 ^ 63) n (row_at d.rows i)) (sym is.nonbasic) row.0) row.1 (at.rows i inside) (λ x one. of.identities x one i h) (λ x one. at.of.identities x one i inside)

times_wide : (z : ℤ) (n : ℕ) → 0 < n → (IsNarrow z → ⊥) → IsNarrow (z *ℤ pos n) → ⊥
times_wide z n some wide small =
    let m : unsigned_abs z * 1 ≤ unsigned_abs z * n = mul-le-mul (omega arith) (omega (arith, some)) in
    wide (omega (arith, m, unsigned_abs-mul z (pos n), small))

pub wide_at_list : (a : Instance) (row col i at : ℕ) (d : Dictionary) (rows : List Equation) → length d.basic ≡ length d.rows → IsDictionaryOf a d → IsWideRow row col d i at → IsDictionaryAt a (with_rows rows (after_exchange row col d)) → IsWideDictionary (with_rows rows (after_exchange row col d))
wide_at_list a row col i at d rows size of cause there =
    let n : length (nonbasic_after row col d) ≡ length d.nonbasic = length-set d.nonbasic col (form_at d.basic row) in
    let inside : i < length rows = omega (arith, cause.within, size, there.size, length-set d.basic row (form_at d.nonbasic col)) in
    let form : form_at (basic_after row col d) i ≡ form_at d.basic i = basic_other row col i d cause.other in
    let m = row_multiple (length (nonbasic_after row col d)) (2 ^ 127) there.bound cause.made (row_at rows i) (affine_of a (form_at d.basic i)) (affine_at a (nonbasic_after row col d)) there.of.independent (subst (λ (k : ℕ). IsRow (2 ^ 127) k cause.made) (sym n) cause.is_row) cause.reduced (there.rows i inside) (λ x one. cause.holds (λ f. affine_of a f x one) one (of.identities x one)) (λ x one. subst (λ (f : Form). Holds (row_at rows i) (affine_of a f x one) (λ j. affine_at a (nonbasic_after row col d) j x one) one) form (there.of.identities x one i inside)) in
    record {
      row = i;
      at = at;
      within = inside;
      wide =
          let number : number_at (length d.nonbasic) (row_at rows i) at ≡ number_at (length d.nonbasic) cause.made at *ℤ pos m.factor = number_times (length d.nonbasic) at cause.made (row_at rows i) (pos m.factor) m.constant m.den (m.entries at) in
          subst (λ (k : ℕ). IsNarrow (number_at k (row_at rows i) at) → ⊥) (sym n)
          (λ small. times_wide (number_at (length d.nonbasic) cause.made at) m.factor m.positive cause.wide (subst (λ (z : ℤ). IsNarrow z) number small));
    }
