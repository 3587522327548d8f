-- A pivot is refused exactly where a reduced row is not narrow.
use Rattle.std.proofs.Common.{ℕ, ◌+◌, ◌^◌, ◌≤◌, ◌<◌, ◌≡◌, ◌∙◌, refl, sym, ap, subst, arith, ℤ, pos, List, [], ◌∷◌, length, cond, eqb, Bool, true, false}
use Rattle.std.proofs.lemmas.List.{length-set}
use Rattle.lp_base.specs.Numbers.{IsNarrow}
use Rattle.lpcc_case.specs.declared.form.Form.{Form}
use Rattle.lpcc_case.specs.Instance.{Instance}
use Rattle.lpcc_case.specs.Points.{coefficient}
use Rattle.dict.specs.declared.fault.Wide.{Wide}
use Rattle.dict.specs.Equations.{Equation, Holds, IsRow, number_at}
use Rattle.dict.specs.Dictionaries.{Dictionary, IsDictionary, IsWide, IsWideRow, row_at, form_at, basic_after, nonbasic_after}
use Rattle.dict.specs.Forms.{IsDictionaryAt, IsDictionaryOf, IsWideDictionary, affine_of, affine_at, after_exchange, with_rows}
use Rattle.dict.proofs.Dictionaries.{basic_other}
use Rattle.dict.proofs.LawsOfDictionaries.{wide_at_list}
use Rattle.dict.proofs.SparseSums.{coefficient_small}
use Rattle.dict_laws.specs.Reduced.{IsExchanged}
use Rattle.dict_laws.proofs.Exchanged.{AreExchanged, are_exchanged, exchanged, is_exchanged, other_holds, rows_exchanged}
use Rattle.dict_laws.proofs.OneDenominator.{one_denominator}
use Rattle.dict_laws.proofs.Rows.{same_reduced}

pub exists : (a : Instance) (row col : ℕ) (d : Dictionary) → IsDictionary a.columns d → IsDictionaryOf a d → row < length d.rows → col < length d.nonbasic → (coefficient (row_at d.rows row).entries col ≡ pos 0 → ⊥) → (e : Dictionary) × IsExchanged a row col d e
exists a row col d is of within_row within_col some =
    let rows = rows_exchanged row col d in
    (exchanged row col d rows, is_exchanged a row col d rows (are_exchanged a row col d is within_row some) is of within_row within_col some)

-- ---- it is one and the same

same_list : (xs ys : List Equation) → length xs ≡ length ys → ((i : ℕ) → i < length xs → row_at xs i ≡ row_at ys i) → xs ≡ ys
same_list [] [] e same = refl
same_list [] (y ∷ ys) e same = absurd (omega (arith, e))
same_list (x ∷ xs) [] e same = absurd (omega (arith, e))
same_list (x ∷ xs) (y ∷ ys) e same =
    let here : x ≡ y = same 0 (omega arith) in
    let rest : xs ≡ ys = same_list xs ys (omega (arith, e)) (λ i h. same (ℕ.suc i) (omega (arith, h))) in
    λ i. here i ∷ rest i

same_dictionary : (d t : Dictionary) → d.rows ≡ t.rows → d.basic ≡ t.basic → d.nonbasic ≡ t.nonbasic → d ≡ t
same_dictionary d t rows basic nonbasic i = record { rows = rows i; basic = basic i; nonbasic = nonbasic i }

-- a row of t at the forms of e
moved : (a : Instance) (e t : Dictionary) (i : ℕ) (x : ℕ → ℤ) (one : ℤ) → e.basic ≡ t.basic → e.nonbasic ≡ t.nonbasic → Holds (row_at t.rows i) (affine_of a (form_at t.basic i) x one) (λ j. affine_at a t.nonbasic j x one) one → Holds (row_at t.rows i) (affine_of a (form_at e.basic i) x one) (λ j. affine_at a e.nonbasic j x one) one
moved a e t i x one basic nonbasic holds =
    subst (λ (fs : List Form). Holds (row_at t.rows i) (affine_of a (form_at fs i) x one) (λ j. affine_at a e.nonbasic j x one) one) (sym basic)
    (subst (λ (fs : List Form). Holds (row_at t.rows i) (affine_of a (form_at t.basic i) x one) (λ j. affine_at a fs j x one) one) (sym nonbasic) holds)

pub once : (a : Instance) (row col : ℕ) (d e t : Dictionary) → IsExchanged a row col d e → IsExchanged a row col d t → e ≡ t
once a row col d e t one two =
    let basic : e.basic ≡ t.basic = one.basic ∙ sym two.basic in
    let nonbasic : e.nonbasic ≡ t.nonbasic = one.nonbasic ∙ sym two.nonbasic in
    let rows : e.rows ≡ t.rows =
    same_list e.rows t.rows (one.size ∙ sym two.size)
    (λ i h.
    let k : i < length t.rows = Rattle.std.proofs.Common.subst (λ (n : ℕ). i < n) (one.size ∙ sym two.size) h in
    same_reduced (length e.nonbasic) one.bound two.bound (row_at e.rows i) (row_at t.rows i) (affine_of a (form_at e.basic i)) (affine_at a e.nonbasic) one.of.independent (one.rows i h) (one.reduced i h) (subst (λ (fs : List Form). IsRow two.bound (length fs) (row_at t.rows i)) (sym nonbasic) (two.rows i k)) (two.reduced i k) (λ x u. one.of.identities x u i h) (λ x u. moved a e t i x u basic nonbasic (two.of.identities x u i k))) in
    same_dictionary e t rows basic nonbasic

-- ---- wide

narrow_by : (b c : Bool) (constant den entry : ℤ) → IsNarrow constant → IsNarrow den → IsNarrow entry → IsNarrow (cond b constant (cond c den entry))
narrow_by true c constant den entry hc hd he = hc
narrow_by false true constant den entry hc hd he = hd
narrow_by false false constant den entry hc hd he = he

narrow_numbers : (n at : ℕ) (q : Equation) → IsRow (2 ^ 63) n q → IsNarrow (number_at n q at)
narrow_numbers n at q is =
    narrow_by (eqb at n) (eqb at (n + 1)) q.constant q.den (coefficient q.entries at) is.constant is.den (coefficient_small (2 ^ 63) 0 n q.entries at (omega arith) is.entries)

places_after : (a : Instance) (row col : ℕ) (d e : Dictionary) → IsExchanged a row col d e → length e.nonbasic ≡ length d.nonbasic
places_after a row col d e is = ap (λ (fs : List Form). length fs) is.nonbasic ∙ length-set d.nonbasic col (form_at d.basic row)

-- the row that a wide place names is that of the dictionary
pub wide_after : (a : Instance) (row col i at : ℕ) (d e : Dictionary) → IsDictionaryOf a d → IsExchanged a row col d e → IsWideRow row col d i at → IsWideDictionary e
wide_after a row col i at d e of is cause =
    let n = places_after a row col d e is in
    let inside : i < length e.rows = omega (arith, is.size, cause.within) in
    let form : form_at e.basic i ≡ form_at d.basic i = ap (λ (fs : List Form). form_at fs i) is.basic ∙ basic_other row col i d cause.other in
    let here : (x : ℕ → ℤ) (one : ℤ) → Holds cause.made (affine_of a (form_at e.basic i) x one) (λ j. affine_at a e.nonbasic j x one) one = λ x one.
    subst (λ (f : Form). Holds cause.made (affine_of a f x one) (λ j. affine_at a e.nonbasic j x one) one) (sym form)
    (subst (λ (fs : List Form). Holds cause.made (affine_of a (form_at d.basic i) x one) (λ j. affine_at a fs j x one) one) (sym is.nonbasic)
    (cause.holds (λ f. affine_of a f x one) one (of.identities x one))) in
    let row_is : IsRow (2 ^ 127) (length e.nonbasic) cause.made = subst (λ (k : ℕ). IsRow (2 ^ 127) k cause.made) (sym n) cause.is_row in
    let same : cause.made ≡ row_at e.rows i = same_reduced (length e.nonbasic) (2 ^ 127) is.bound cause.made (row_at e.rows i) (affine_of a (form_at e.basic i)) (affine_at a e.nonbasic) is.of.independent row_is cause.reduced (is.rows i inside) (is.reduced i inside) here (λ x one. is.of.identities x one i inside) in
    record {
      row = i;
      at = at;
      within = inside;
      wide = subst (λ (k : ℕ). IsNarrow (number_at k (row_at e.rows i) at) → ⊥) (sym n) (subst (λ (q : Equation). IsNarrow (number_at (length d.nonbasic) q at) → ⊥) same cause.wide);
    }

abbrev place : ℕ → ℕ → ℕ → ℕ → Wide
place row col i at = record { row = row; col = col; at_row = i; at_col = at }

-- a number that is not narrow names a wide place
made_wide : (a : Instance) (row col : ℕ) (d : Dictionary) (rows : List Equation) → AreExchanged row col d rows → row < length d.rows → col < length d.nonbasic → IsWideDictionary (exchanged row col d rows) → (w : Wide) × IsWide row col d w
unfolding place
made_wide a row col d rows are within_row within_col wide =
    let n : length (nonbasic_after row col d) ≡ length d.nonbasic = length-set d.nonbasic col (form_at d.basic row) in
    let i = wide.row in
    let at = wide.at in
    let inside : i < length d.rows = omega (arith, wide.within, are.size) in
    let too_wide : IsNarrow (number_at (length d.nonbasic) (row_at rows i) at) → ⊥ = subst (λ (k : ℕ). IsNarrow (number_at k (row_at rows i) at) → ⊥) n wide.wide in
    let other : i ≡ row → ⊥ = λ same.
    too_wide (subst (λ (k : ℕ). IsNarrow (number_at (length d.nonbasic) (row_at rows k) at)) (sym same) (narrow_numbers (length d.nonbasic) at (row_at rows row) are.entering.row)) in (
      place row col i at,
      record {
        at_row = refl;
        at_col = refl;
        cause = record {
          within = inside;
          other = other;
          made = row_at rows i;
          is_row = (are.next i inside other).row;
          reduced = (are.next i inside other).reduced;
          holds = λ m one holds. other_holds row col i d rows m one are within_row within_col inside other holds;
          wide = too_wide;
        };
      },
    )

pub exact : (a : Instance) (row col : ℕ) (d e : Dictionary) → IsDictionary a.columns d → IsDictionaryOf a d → row < length d.rows → col < length d.nonbasic → (coefficient (row_at d.rows row).entries col ≡ pos 0 → ⊥) → IsExchanged a row col d e → (((w : Wide) × IsWide row col d w) → IsWideDictionary e) × (IsWideDictionary e → (w : Wide) × IsWide row col d w)
exact a row col d e is of within_row within_col some there =
    let rows = rows_exchanged row col d in
    let are = are_exchanged a row col d is within_row some in
    let same : e ≡ exchanged row col d rows = once a row col d e (exchanged row col d rows) there (is_exchanged a row col d rows are is of within_row within_col some) in (
      λ found. wide_after a row col found.0.at_row found.0.at_col d e of there found.1.cause,
      λ wide. made_wide a row col d rows are within_row within_col (subst (λ (t : Dictionary). IsWideDictionary t) same wide),
    )

pub one_wide : (a : Instance) (row col : ℕ) (d : Dictionary) (w : Wide) → IsDictionary a.columns d → IsDictionaryOf a d → row < length d.rows → col < length d.nonbasic → (coefficient (row_at d.rows row).entries col ≡ pos 0 → ⊥) → IsWide row col d w → (rows : List Equation) × IsDictionaryAt a (with_rows rows (after_exchange row col d)) × IsWideDictionary (with_rows rows (after_exchange row col d))
one_wide a row col d w is of within_row within_col some wide =
    let rows = rows_exchanged row col d in
    let are = are_exchanged a row col d is within_row some in
    let made = is_exchanged a row col d rows are is of within_row within_col some in
    let size : length (basic_after row col d) ≡ length rows = length-set d.basic row (form_at d.nonbasic col) ∙ is.basic ∙ sym are.size in
    let found = one_denominator a (exchanged row col d rows) made.bound made.of size (omega (arith, are.size, within_row)) made.rows in
    (found.0, found.1, wide_at_list a row col w.at_row w.at_col d found.0 is.basic of wide.cause found.1)
