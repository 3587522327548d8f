-- A dictionary after a pivot.
use Rattle.std.proofs.Common.{ℕ, zero, suc, ◌^◌, ◌<◌, ◌≡◌, ◌∙◌, refl, sym, ap, subst, arith, ℤ, pos, ◌<ℤ◌, List, [], ◌∷◌, length, get_or, set}
use Rattle.std.proofs.lemmas.Int.{ints}
use Rattle.std.proofs.lemmas.List.{get_or-set_same, get_or-set_other, length-set}
use Rattle.std.proofs.lemmas.List.Sorted.{IsPermutation-trans}
use Rattle.lpcc_case.specs.declared.form.Form.{Form}
use Rattle.lpcc_case.specs.declared.form.Form.TheVariants.{Cost}
use Rattle.lpcc_case.specs.Instance.{Instance}
use Rattle.lpcc_case.specs.Points.{coefficient}
use Rattle.dict.specs.Terms.{without}
use Rattle.dict.specs.Equations.{Equation, Holds, IsRow}
use Rattle.dict.specs.Dictionaries.{Dictionary, row_at, form_at, IsDictionary, AllHold, basic_after, nonbasic_after, IsWideRow}
use Rattle.dict.specs.Pivots.{IsAfter, IsWidePlace}
use Rattle.dict.specs.Forms.{IsDictionaryOf, AreIndependent, affine_of, affine_at, forms_of}
use Rattle.dict.proofs.SparseSums.{without_same, without_apart, terms_below}
use Rattle.dict.proofs.Pivots.{by_eq, rows_after}
use Rattle.dict.proofs.Permutations.{exchange_permutes}
use Rattle.dict.proofs.Independence.{independent_after}

-- the dictionary with these rows, its forms exchanged
abbrev pub pivoted : List Equation → ℕ → ℕ → Dictionary → Dictionary
pivoted rows row col d = record { rows = rows; basic = basic_after row col d; nonbasic = nonbasic_after row col d }

form_is : (forms : List Form) (i : ℕ) (d : Form) → i < length forms → get_or forms i d ≡ form_at forms i
form_is [] i d h = absurd (omega arith)
form_is (f ∷ forms) zero d h = refl
form_is (f ∷ forms) (suc i) d h = form_is forms i d (omega arith)

-- the form that indexing gave
pub form_read : (forms : List Form) (i : ℕ) (x : Form) → i < length forms → x ≡ get_or forms i x → x ≡ form_at forms i
form_read forms i x h e = e ∙ form_is forms i x h

pub nonbasic_other : (row col j : ℕ) (d : Dictionary) → (j ≡ col → ⊥) → form_at (nonbasic_after row col d) j ≡ form_at d.nonbasic j
nonbasic_other row col j d h = get_or-set_other d.nonbasic col j (form_at d.basic row) Cost h

pub nonbasic_here : (row col : ℕ) (d : Dictionary) → col < length d.nonbasic → form_at (nonbasic_after row col d) col ≡ form_at d.basic row
nonbasic_here row col d h = get_or-set_same d.nonbasic col (form_at d.basic row) Cost h

pub basic_other : (row col i : ℕ) (d : Dictionary) → (i ≡ row → ⊥) → form_at (basic_after row col d) i ≡ form_at d.basic i
basic_other row col i d h = get_or-set_other d.basic row i (form_at d.nonbasic col) Cost h

pub basic_here : (row col : ℕ) (d : Dictionary) → row < length d.basic → form_at (basic_after row col d) row ≡ form_at d.nonbasic col
basic_here row col d h = get_or-set_same d.basic row (form_at d.nonbasic col) Cost h

-- the worth of the nonbasic forms before and after differs at the place of the exchange alone
pub same_values : (row col : ℕ) (d : Dictionary) (m : Form → ℤ) (j : ℕ) → without col (λ k. m (form_at d.nonbasic k)) j ≡ without col (λ k. m (form_at (nonbasic_after row col d) k)) j
same_values row col d m j =
    by_eq j col
    (λ same.
    ap (λ k. without col (λ k. m (form_at d.nonbasic k)) k) same ∙ without_same col (λ k. m (form_at d.nonbasic k))
    ∙ sym (ap (λ k. without col (λ k. m (form_at (nonbasic_after row col d) k)) k) same ∙ without_same col (λ k. m (form_at (nonbasic_after row col d) k))))
    (λ other.
    without_apart col j (λ k. m (form_at d.nonbasic k)) other
    ∙ ap m (sym (nonbasic_other row col j d other))
    ∙ sym (without_apart col j (λ k. m (form_at (nonbasic_after row col d) k)) other))

pub all_hold_after : (places row col : ℕ) (d : Dictionary) (rows : List Equation) (m : Form → ℤ) (one : ℤ) → IsAfter places row col d.rows rows → length d.basic ≡ length d.rows → row < length d.rows → col < length d.nonbasic → AllHold m one d → AllHold m one (pivoted rows row col d)
all_hold_after places row col d rows m one after size within_row within_col holds i h =
    let v : ℕ → ℤ = λ j. m (form_at d.nonbasic j) in
    let w : ℕ → ℤ = λ j. m (form_at (nonbasic_after row col d) j) in
    let same : (j : ℕ) → without col v j ≡ without col w j = same_values row col d m in
    let leaves : w col ≡ m (form_at d.basic row) = ap m (nonbasic_here row col d within_col) in
    let enter : Holds (row_at rows row) (v col) w one = after.enters (m (form_at d.basic row)) one v w same leaves (holds row within_row) in
    by_eq i row
    (λ here.
    let form : m (form_at (basic_after row col d) row) ≡ v col = ap m (basic_here row col d (omega (arith, size, within_row))) in
    subst (λ (k : ℕ). Holds (row_at rows k) (m (form_at (basic_after row col d) k)) w one) (sym here) (subst (λ (f : ℤ). Holds (row_at rows row) f w one) (sym form) enter))
    (λ other.
    let inside : i < length d.rows = omega (arith, h, after.size) in
    let form : m (form_at (basic_after row col d) i) ≡ m (form_at d.basic i) = ap m (basic_other row col i d other) in
    subst (λ (f : ℤ). Holds (row_at rows i) f w one) (sym form) ((after.next i inside other).carries (m (form_at d.basic i)) one v w same (holds i inside) enter))

pub wide_row : (row col : ℕ) (d : Dictionary) (at : ℕ × ℕ) → row < length d.rows → col < length d.nonbasic → IsWidePlace (length d.nonbasic) row col d.rows at → IsWideRow row col d at.0 at.1
wide_row row col d at within_row within_col wide = record {
  within = wide.within;
  other = wide.other;
  made = wide.wide.made;
  is_row = wide.wide.row;
  reduced = wide.wide.reduced;
  holds = λ m one holds.
      let v : ℕ → ℤ = λ j. m (form_at d.nonbasic j) in
      let w : ℕ → ℤ = λ j. m (form_at (nonbasic_after row col d) j) in
      let same : (j : ℕ) → without col v j ≡ without col w j = same_values row col d m in
      let leaves : w col ≡ m (form_at d.basic row) = ap m (nonbasic_here row col d within_col) in
      let enter : Holds wide.entering (v col) w one = wide.enters (m (form_at d.basic row)) one v w same leaves (holds row within_row) in
      wide.wide.carries (m (form_at d.basic at.0)) one v w same (holds at.0 wide.within) enter;
  wide = wide.wide.wide;
}

pub dictionary_after : (places row col : ℕ) (d : Dictionary) (rows : List Equation) → IsAfter places row col d.rows rows → IsDictionary places d → IsDictionary places (pivoted rows row col d)
dictionary_after places row col d rows after is = record {
  few_columns = is.few_columns;
  few_rows = omega (arith, is.few_rows, after.size);
  nonbasic = length-set d.nonbasic col (form_at d.basic row) ∙ is.nonbasic;
  basic = length-set d.basic row (form_at d.nonbasic col) ∙ is.basic ∙ sym after.size;
  rows = rows_after places row col d.rows rows after;
}

pub not_zero : (z : ℤ) → pos 0 <ℤ z → z ≡ pos 0 → ⊥
not_zero z h e = omega (arith, ints, h, e)

-- an exchange over an entry that is not zero keeps independence
pub independent_forms : (a : Instance) (bound row col : ℕ) (d : Dictionary) → row < length d.rows → col < length d.nonbasic → IsRow bound (length d.nonbasic) (row_at d.rows row) → (coefficient (row_at d.rows row).entries col ≡ pos 0 → ⊥) → IsDictionaryOf a d → AreIndependent (length (nonbasic_after row col d)) (affine_at a (nonbasic_after row col d))
independent_forms a bound row col d within_row within_col is some of =
    subst (λ (n : ℕ). AreIndependent n (affine_at a (nonbasic_after row col d))) (sym (length-set d.nonbasic col (form_at d.basic row)))
    (independent_after (length d.nonbasic) col (row_at d.rows row) (affine_of a (form_at d.basic row)) (affine_at a d.nonbasic) (affine_at a (nonbasic_after row col d)) of.independent (terms_below bound 0 (length d.nonbasic) (row_at d.rows row).entries is.entries) (λ x one. of.identities x one row within_row) (not_zero (row_at d.rows row).den is.positive) some
    (λ x. ap (λ (f : Form). affine_of a f x (pos 0)) (nonbasic_here row col d within_col))
    (λ j x other. ap (λ (f : Form). affine_of a f x (pos 0)) (nonbasic_other row col j d other)))

pub of_after : (a : Instance) (places row col : ℕ) (d : Dictionary) (rows : List Equation) → IsAfter places row col d.rows rows → IsDictionary places d → row < length d.rows → col < length d.nonbasic → (coefficient (row_at d.rows row).entries col ≡ pos 0 → ⊥) → IsDictionaryOf a d → IsDictionaryOf a (pivoted rows row col d)
of_after a places row col d rows after is within_row within_col some of = record {
  forms = IsPermutation-trans (forms_of a) _ _ of.forms (exchange_permutes d.nonbasic d.basic col row Cost within_col (omega (arith, is.basic, within_row)));
  identities = λ x one. all_hold_after places row col d rows (λ f. affine_of a f x one) one after is.basic within_row within_col (of.identities x one);
  independent = independent_forms a (2 ^ 63) row col d within_row within_col (subst (λ (n : ℕ). IsRow (2 ^ 63) n (row_at d.rows row)) (sym is.nonbasic) (is.rows row within_row).0) some of;
}

-- the value that the code makes, with the forms that it read
pub pivoted_is : (rows : List Equation) (row col : ℕ) (d : Dictionary) (x y : Form) → x ≡ form_at d.nonbasic col → y ≡ form_at d.basic row → pivoted rows row col d ≡ record { rows = rows; basic = set d.basic row x; nonbasic = set d.nonbasic col y }
pivoted_is rows row col d x y ex ey = rw (ex, ey) refl
