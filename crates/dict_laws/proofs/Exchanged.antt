-- The dictionary after an exchange, each row reduced by itself.
use Rattle.std.proofs.Common.{ℕ, ◌-◌, ◌^◌, ◌<◌, ◌≡◌, ◌∙◌, refl, sym, ap, subst, arith, ℤ, pos, ◌+ℤ◌, ◌*ℤ◌, ◌<ℤ◌, List, [], ◌∷◌, ◌++◌, length, map, set}
use Rattle.std.specs.Prelude.{unsigned_abs}
use Rattle.std.specs.List.{AllByRecursion}
use Rattle.std.proofs.lemmas.Int.{ints}
use Rattle.std.proofs.lemmas.List.{length-map, length-set}
use Rattle.std.proofs.lemmas.List.Sorted.{IsPermutation-trans}
use lib.Signed.{lt_z}
use Rattle.lp_base.proofs.Ring.{abs_add, abs_mul, mul_comm}
use Rattle.lpcc_case.specs.declared.form.Form.{Form}
use Rattle.lpcc_case.specs.declared.form.Form.TheVariants.{Cost}
use Rattle.lpcc_case.specs.Instance.{Instance}
use Rattle.lpcc_case.specs.Points.{coefficient}
use Rattle.dict.specs.Terms.{weigh, only, without}
use Rattle.dict.specs.Equations.{Equation, equation, Divides, Holds, IsRow, IsReduced, IsReducedOf, scale}
use Rattle.dict.specs.Exchanges.{Carries, Enters}
use Rattle.dict.specs.Dictionaries.{Dictionary, IsDictionary, AllHold, row_at, form_at, basic_after, nonbasic_after}
use Rattle.dict.specs.Forms.{IsDictionaryOf, affine_of, forms_of}
use Rattle.dict.proofs.Commons.{above}
use Rattle.dict.proofs.Dictionaries.{basic_here, basic_other, independent_forms, nonbasic_here, same_values}
use Rattle.dict.proofs.Enters.{enters, entered_reduced, entered_row, entering_row, sign_is}
use Rattle.dict.proofs.Exchanges.{carried, positive}
use Rattle.dict.proofs.Independence.{all_append, all_scale, drop_all, drop_at, weigh_drop}
use Rattle.dict.proofs.Permutations.{exchange_permutes}
use Rattle.dict.proofs.Pivots.{by_eq, row_set_other, row_set_same}
use Rattle.dict.proofs.Reduces.{divided, divided_exact, holds_reduced, reduced_of, unscaled_row}
use Rattle.dict.proofs.SparseSums.{coefficient_small, terms_below, weigh_append, weigh_only, weigh_scale}
use Rattle.dict_laws.specs.Reduced.{IsExchanged}
use Rattle.dict_laws.proofs.OneDenominator.{common_of_rows, row_map}
use Rattle.dict_laws.proofs.Sparse.{are_in_order, in_order, order_sum}

-- ---- a row divided by its greatest common divisor

pub lowest : Equation → Equation
lowest q = divided (common_of_rows (q ∷ [])).g q

pub lowest_of : (q : Equation) → pos 0 <ℤ q.den → IsReducedOf q (lowest q)
unfolding lowest
lowest_of q over =
    let c = common_of_rows (q ∷ []) in
    let divides : Divides c.g q = c.divides 0 (omega arith) in
    reduced_of q (divided c.g q) c.g (above c.g q.den divides.den over) (divided_exact c.g q divides)
    (λ d h. c.greatest d (λ i inside. let first : 0 ≡ i = omega (arith, inside) in subst (λ (k : ℕ). Divides d (row_at (q ∷ []) k)) first h))

-- ---- a row after the exchange

-- the terms of the row without the form at e, and those of the row that enters, each times its factor
mixed : ℕ → Equation → Equation → List (ℕ × ℤ)
mixed e q entering = scale entering.den (drop_at e q.entries) ++ scale (coefficient q.entries e) entering.entries

abbrev raw : ℕ → ℕ → Equation → Equation → Equation
raw n e entering q =
    equation (entering.den *ℤ q.den) ((entering.den *ℤ q.constant) +ℤ (coefficient q.entries e *ℤ entering.constant)) (in_order n (mixed e q entering))

mixed_sum : (e : ℕ) (q entering : Equation) (v : ℕ → ℤ) → weigh (mixed e q entering) v ≡ (entering.den *ℤ weigh q.entries (without e v)) +ℤ (coefficient q.entries e *ℤ weigh entering.entries v)
unfolding mixed
mixed_sum e q entering v =
    weigh_append (scale entering.den (drop_at e q.entries)) (scale (coefficient q.entries e) entering.entries) v
    ∙ ap (λ z. z +ℤ weigh (scale (coefficient q.entries e) entering.entries) v) (weigh_scale entering.den (drop_at e q.entries) v ∙ ap (λ z. z *ℤ entering.den) (weigh_drop e q.entries v) ∙ mul_comm (weigh q.entries (without e v)) entering.den)
    ∙ ap (λ z. (entering.den *ℤ weigh q.entries (without e v)) +ℤ z) (weigh_scale (coefficient q.entries e) entering.entries v ∙ mul_comm (weigh entering.entries v) (coefficient q.entries e))

mixed_below : (bound n e : ℕ) (q entering : Equation) → IsRow bound n q → IsRow bound n entering → AllByRecursion (λ t. t.0 < n) (mixed e q entering)
unfolding mixed
mixed_below bound n e q entering is enter =
    all_append n (scale entering.den (drop_at e q.entries)) (scale (coefficient q.entries e) entering.entries)
    (all_scale n entering.den (drop_at e q.entries) (drop_all n e q.entries (terms_below bound 0 n q.entries is.entries)))
    (all_scale n (coefficient q.entries e) entering.entries (terms_below bound 0 n entering.entries enter.entries))

two_small : (p x a y : ℤ) → unsigned_abs p < 2 ^ 63 → unsigned_abs x < 2 ^ 63 → unsigned_abs a < 2 ^ 63 → unsigned_abs y < 2 ^ 63 → unsigned_abs ((p *ℤ x) +ℤ (a *ℤ y)) < 2 ^ 127
two_small p x a y hp hx ha hy =
    let one = abs_mul p x (2 ^ 63 - 1) (2 ^ 63 - 1) (omega (arith, hp)) (omega (arith, hx)) in
    let two = abs_mul a y (2 ^ 63 - 1) (2 ^ 63 - 1) (omega (arith, ha)) (omega (arith, hy)) in
    omega (arith, abs_add (p *ℤ x) (a *ℤ y), one, two)

one_small : (p x : ℤ) → unsigned_abs p < 2 ^ 63 → unsigned_abs x < 2 ^ 63 → unsigned_abs (p *ℤ x) < 2 ^ 127
one_small p x hp hx = omega (arith, abs_mul p x (2 ^ 63 - 1) (2 ^ 63 - 1) (omega (arith, hp)) (omega (arith, hx)))

-- the terms without one place have the same numbers, or 0
without_small : (n e j : ℕ) (q : Equation) → IsRow (2 ^ 63) n q → unsigned_abs (weigh q.entries (without e (only j))) < 2 ^ 63
without_small n e j q is =
    let whole : unsigned_abs (coefficient q.entries j) < 2 ^ 63 = coefficient_small (2 ^ 63) 0 n q.entries j (omega arith) is.entries in
    by_eq j e
    (λ same. omega (arith, ints, Rattle.dict.proofs.SparseSums.weigh_none q.entries (without e (only j)) (λ i. nothing e j i same)))
    (λ other. subst (λ (z : ℤ). unsigned_abs z < 2 ^ 63) (sym (Rattle.dict.proofs.SparseSums.weigh_same q.entries (without e (only j)) (only j) (λ i. unchanged e j i other) ∙ weigh_only q.entries j)) whole)
  where
    nothing : (e j i : ℕ) → j ≡ e → without e (only j) i ≡ pos 0
    nothing e j i h = grind arith

    unchanged : (e j i : ℕ) → (j ≡ e → ⊥) → without e (only j) i ≡ only j i
    unchanged e j i h = grind arith

mixed_small : (n e : ℕ) (q entering : Equation) → IsRow (2 ^ 63) n q → IsRow (2 ^ 63) n entering → (j : ℕ) → unsigned_abs (coefficient (mixed e q entering) j) < 2 ^ 127
mixed_small n e q entering is enter j =
    let value : coefficient (mixed e q entering) j ≡ (entering.den *ℤ weigh q.entries (without e (only j))) +ℤ (coefficient q.entries e *ℤ weigh entering.entries (only j)) = sym (weigh_only (mixed e q entering) j) ∙ mixed_sum e q entering (only j) in
    let last : unsigned_abs (weigh entering.entries (only j)) < 2 ^ 63 = subst (λ (z : ℤ). unsigned_abs z < 2 ^ 63) (sym (weigh_only entering.entries j)) (coefficient_small (2 ^ 63) 0 n entering.entries j (omega arith) enter.entries) in
    subst (λ (z : ℤ). unsigned_abs z < 2 ^ 127) (sym value)
    (two_small entering.den (weigh q.entries (without e (only j))) (coefficient q.entries e) (weigh entering.entries (only j)) enter.den (without_small n e j q is) (coefficient_small (2 ^ 63) 0 n q.entries e (omega arith) is.entries) last)

pub record IsNextRow (n e : ℕ) (q entering made : Equation) : Type 0 where
  pub row : IsRow (2 ^ 127) n made
  pub reduced : IsReduced made
  pub carries : Carries e q entering made

pub next_row : ℕ → ℕ → Equation → Equation → Equation
next_row n e entering q = lowest (raw n e entering q)

pub is_next : (n e : ℕ) (q entering : Equation) → IsRow (2 ^ 63) n q → IsRow (2 ^ 63) n entering → IsNextRow n e q entering (next_row n e entering q)
unfolding next_row
is_next n e q entering is enter =
    let small = mixed_small n e q entering is enter in
    let over : pos 0 <ℤ (entering.den *ℤ q.den) = positive entering.den q.den enter.positive is.positive in
    let made = raw n e entering q in
    let row : IsRow (2 ^ 127) n made = record {
      positive = over;
      den = one_small entering.den q.den enter.den is.den;
      constant = two_small entering.den q.constant (coefficient q.entries e) entering.constant enter.den is.constant (coefficient_small (2 ^ 63) 0 n q.entries e (omega arith) is.entries) enter.constant;
      entries = are_in_order (2 ^ 127) n (mixed e q entering) small;
    } in
    let of = lowest_of made over in
    let carry : Carries e q entering made = carried e q entering (in_order n (mixed e q entering)) (λ v. order_sum (2 ^ 127) n (mixed e q entering) v small (mixed_below (2 ^ 63) n e q entering is enter) ∙ mixed_sum e q entering v) in
    record {
      row = unscaled_row (2 ^ 127) of.g n (lowest made) of.positive (subst (λ (r : Equation). IsRow (2 ^ 127) n r) (sym of.exact) row);
      reduced = of.reduced;
      carries = λ f one v w same here entered. holds_reduced made (lowest made) f one w of (carry f one v w same here entered);
    }

-- ---- all rows

pub entering_of : ℕ → Equation → Equation
entering_of e q = entering_row (lt_z (pos 0) (coefficient q.entries e)) e q

pub record IsEntering (n e : ℕ) (q made : Equation) : Type 0 where
  pub row : IsRow (2 ^ 63) n made
  pub reduced : IsReduced made
  pub enters : Enters e q made

pub is_entering : (n e : ℕ) (q : Equation) → IsRow (2 ^ 63) n q → IsReduced q → (coefficient q.entries e ≡ pos 0 → ⊥) → IsEntering n e q (entering_of e q)
unfolding entering_of
is_entering n e q is reduced some =
    let flip = lt_z (pos 0) (coefficient q.entries e) in
    record {
      row = entered_row (2 ^ 63) n flip e q is (coefficient_small (2 ^ 63) 0 n q.entries e (omega arith) is.entries) (sign_is flip (coefficient q.entries e) refl some);
      reduced = entered_reduced (2 ^ 63) n flip e q is.entries some reduced;
      enters = enters (2 ^ 63) n flip e q is.entries some;
    }

pub rows_exchanged : ℕ → ℕ → Dictionary → List Equation
rows_exchanged row col d =
    set (map (next_row (length d.nonbasic) col (entering_of col (row_at d.rows row))) d.rows) row (entering_of col (row_at d.rows row))

-- what the rows after the exchange are
pub record AreExchanged (row col : ℕ) (d : Dictionary) (rows : List Equation) : Type 0 where
  pub size : length rows ≡ length d.rows
  pub entering : IsEntering (length d.nonbasic) col (row_at d.rows row) (row_at rows row)
  pub next : (i : ℕ) → i < length d.rows → (i ≡ row → ⊥) → IsNextRow (length d.nonbasic) col (row_at d.rows i) (row_at rows row) (row_at rows i)

pub are_exchanged : (a : Instance) (row col : ℕ) (d : Dictionary) → IsDictionary a.columns d → row < length d.rows → (coefficient (row_at d.rows row).entries col ≡ pos 0 → ⊥) → AreExchanged row col d (rows_exchanged row col d)
unfolding rows_exchanged
are_exchanged a row col d is within some =
    let n = length d.nonbasic in
    let each : (i : ℕ) → i < length d.rows → IsRow (2 ^ 63) n (row_at d.rows i) = λ i h. subst (λ (k : ℕ). IsRow (2 ^ 63) k (row_at d.rows i)) (sym is.nonbasic) (is.rows i h).0 in
    let entering = entering_of col (row_at d.rows row) in
    let enter = is_entering n col (row_at d.rows row) (each row within) (is.rows row within).1 some in
    let f = next_row n col entering in
    let middle = map f d.rows in
    let count : length middle ≡ length d.rows = length-map d.rows f in
    let rows = set middle row entering in
    let here : row_at rows row ≡ entering = row_set_same middle row entering (omega (arith, count, within)) in
    record {
      size = length-set middle row entering ∙ count;
      entering = subst (λ (q : Equation). IsEntering n col (row_at d.rows row) q) (sym here) enter;
      next = λ i h other.
          let there : row_at rows i ≡ f (row_at d.rows i) = row_set_other middle row i entering other ∙ row_map f d.rows i h in
          subst (λ (q : Equation). IsNextRow n col (row_at d.rows i) q (row_at rows i)) (sym here)
          (subst (λ (q : Equation). IsNextRow n col (row_at d.rows i) entering q) (sym there) (is_next n col (row_at d.rows i) entering (each i h) enter.row));
    }

-- ---- the dictionary

abbrev pub exchanged : ℕ → ℕ → Dictionary → List Equation → Dictionary
exchanged row col d rows = record { rows = rows; basic = basic_after row col d; nonbasic = nonbasic_after row col d }

-- what a row after the exchange says, where the dictionary holds
pub other_holds : (row col i : ℕ) (d : Dictionary) (rows : List Equation) (m : Form → ℤ) (one : ℤ) → AreExchanged row col d rows → row < length d.rows → col < length d.nonbasic → i < length d.rows → (i ≡ row → ⊥) → AllHold m one d → Holds (row_at rows i) (m (form_at d.basic i)) (λ j. m (form_at (nonbasic_after row col d) j)) one
other_holds row col i d rows m one are within_row within_col h other holds =
    let v : ℕ → ℤ = λ j. m (form_at d.nonbasic j) in
    let w : ℕ → ℤ = λ j. m (form_at (nonbasic_after row col d) j) in
    let same : (j : ℕ) → without col v j ≡ without col w j = same_values row col d m in
    let leaves : w col ≡ m (form_at d.basic row) = ap m (nonbasic_here row col d within_col) in
    let enter : Holds (row_at rows row) (v col) w one = are.entering.enters (m (form_at d.basic row)) one v w same leaves (holds row within_row) in
    (are.next i h other).carries (m (form_at d.basic i)) one v w same (holds i h) enter

row_holds : (row col : ℕ) (d : Dictionary) (rows : List Equation) (m : Form → ℤ) (one : ℤ) → AreExchanged row col d rows → row < length d.rows → col < length d.nonbasic → AllHold m one d → Holds (row_at rows row) (m (form_at d.nonbasic col)) (λ j. m (form_at (nonbasic_after row col d) j)) one
row_holds row col d rows m one are within_row within_col holds =
    let v : ℕ → ℤ = λ j. m (form_at d.nonbasic j) in
    let w : ℕ → ℤ = λ j. m (form_at (nonbasic_after row col d) j) in
    are.entering.enters (m (form_at d.basic row)) one v w (same_values row col d m) (ap m (nonbasic_here row col d within_col)) (holds row within_row)

all_hold : (row col : ℕ) (d : Dictionary) (rows : List Equation) (m : Form → ℤ) (one : ℤ) → AreExchanged row col d rows → length d.basic ≡ length d.rows → row < length d.rows → col < length d.nonbasic → AllHold m one d → AllHold m one (exchanged row col d rows)
all_hold row col d rows m one are size within_row within_col holds i h =
    let w : ℕ → ℤ = λ j. m (form_at (nonbasic_after row col d) j) in
    by_eq i row
    (λ here.
    let form : m (form_at (basic_after row col d) row) ≡ m (form_at d.nonbasic col) = ap m (basic_here row col d (omega (arith, size, within_row))) in
    subst (λ (k : ℕ). Holds (row_at rows k) (m (form_at (basic_after row col d) k)) w one) (sym here) (subst (λ (f : ℤ). Holds (row_at rows row) f w one) (sym form) (row_holds row col d rows m one are within_row within_col holds)))
    (λ other.
    let form : m (form_at (basic_after row col d) i) ≡ m (form_at d.basic i) = ap m (basic_other row col i d other) in
    subst (λ (f : ℤ). Holds (row_at rows i) f w one) (sym form) (other_holds row col i d rows m one are within_row within_col (omega (arith, h, are.size)) other holds))

wider : (n : ℕ) (q : Equation) → IsRow (2 ^ 63) n q → IsRow (2 ^ 127) n q
wider n q is = record {
  positive = is.positive;
  den = omega (arith, is.den);
  constant = omega (arith, is.constant);
  entries = Rattle.dict.proofs.SparseSums.terms_wider (2 ^ 63) (2 ^ 127) 0 n q.entries (omega arith) is.entries;
}

pub is_exchanged : (a : Instance) (row col : ℕ) (d : Dictionary) (rows : List Equation) → AreExchanged row col d rows → IsDictionary a.columns d → IsDictionaryOf a d → row < length d.rows → col < length d.nonbasic → (coefficient (row_at d.rows row).entries col ≡ pos 0 → ⊥) → IsExchanged a row col d (exchanged row col d rows)
is_exchanged a row col d rows are is of within_row within_col some =
    let n = length d.nonbasic in
    let places : length (nonbasic_after row col d) ≡ n = length-set d.nonbasic col (form_at d.basic row) in
    let inside : (i : ℕ) → i < length rows → i < length d.rows = λ i h. omega (arith, h, are.size) in
    record {
      of = record {
        forms = IsPermutation-trans (forms_of a) _ _ of.forms (exchange_permutes d.nonbasic d.basic col row Cost within_col (omega (arith, is.basic, within_row)));
        identities = λ x one. all_hold row col d rows (λ f. affine_of a f x one) one are is.basic within_row within_col (of.identities x one);
        independent = independent_forms a (2 ^ 63) row col d within_row within_col (subst (λ (k : ℕ). IsRow (2 ^ 63) k (row_at d.rows row)) (sym is.nonbasic) (is.rows row within_row).0) some of;
      };
      basic = refl;
      nonbasic = refl;
      size = are.size;
      bound = 2 ^ 127;
      rows = λ i h.
          subst (λ (k : ℕ). IsRow (2 ^ 127) k (row_at rows i)) (sym places)
          (by_eq i row
          (λ here. subst (λ (k : ℕ). IsRow (2 ^ 127) n (row_at rows k)) (sym here) (wider n (row_at rows row) are.entering.row))
          (λ other. (are.next i (inside i h) other).row));
      reduced = λ i h.
          by_eq i row
          (λ here. subst (λ (k : ℕ). IsReduced (row_at rows k)) (sym here) are.entering.reduced)
          (λ other. (are.next i (inside i h) other).reduced);
    }
