-- Where the columns are worth what the dictionary says, each nonbasic form has the worth that was asked for.
use Rattle.std.proofs.Common.{ℕ, ◌<◌, ◌≡◌, ◌∙◌, refl, sym, ap, subst, arith, ℤ, pos, ◌+ℤ◌, ◌-ℤ◌, ◌*ℤ◌, ◌<ℤ◌, List, [], ◌∷◌, ◌++◌, length, map, get_or, Bool, true, false, eqb, ◌⊎◌, inl, inr}
use Rattle.std.specs.Prelude.{unsigned_abs}
use Rattle.std.specs.List.{AllByRecursion, list_any, range_with_len}
use Rattle.std.proofs.lemmas.Int.{ints}
use Rattle.std.proofs.lemmas.Bool.{eqb-true, eq-eqb, or_cases}
use Rattle.std.proofs.lemmas.List.{get_or_append_left, get_or_default, length-append}
use Rattle.std.proofs.lemmas.List.Folds.{Any-from_list_any, list_any_at, list_any-append}
use Rattle.std.proofs.lemmas.List.FromFn.{length-map-range_with_len, get_or-map-range_with_len}
use Rattle.std.proofs.lemmas.List.Sorted.{list_any-IsPermutation}
use Rattle.std.proofs.lemmas.List.Elements.{recursion_from_All}
use Rattle.std.proofs.Math.IntN.{zero-*ℤ}
use Rattle.lp_base.proofs.Ring.{mul_add_right, mul_add_left, mul_assoc, mul_comm, mul_shuffle, mul_lt_right, mul_cancel_right}
use Rattle.lpcc_case.specs.declared.form.Form.{Form}
use Rattle.lpcc_case.specs.declared.form.Form.TheVariants.{Col, Con, Cost}
use Rattle.lpcc_case.specs.Cases.{IsCase}
use Rattle.lpcc_case.specs.Instance.{Instance, constraint_at}
use Rattle.lpcc_case.proofs.Members.{constraint_of_case}
use Rattle.dict.specs.Terms.{weigh}
use Rattle.dict.specs.Equations.{Equation, equation, Holds, scale}
use Rattle.dict.specs.Dictionaries.{Dictionary, row_at, form_at}
use Rattle.dict.specs.Forms.{IsDictionaryOf, affine_of, affine_at, forms_of}
use Rattle.dict.proofs.Machine.{is_pos}
use Rattle.dict.proofs.SparseSums.{weigh_append, weigh_scale, weigh_same_below}
use Rattle.dict.proofs.Independence.{all_scale, all_append}
use Rattle.dict.proofs.Determined.{determined}
use Rattle.walks.specs.Bases.{IsBase}
use Rattle.walks.specs.Duals.{IsNamed}
use Rattle.walks.proofs.Sums.{weigh_multiple}

-- ---- where a column stands

is_col : ℕ → Form → Bool
is_col c (Col j) = eqb j c
is_col c (Con k) = false
is_col c Cost = false

is_col_true : (c : ℕ) (f : Form) → is_col c f ≡ true → f ≡ Col c
unfolding is_col
is_col_true c (Col j) h = ap Col (eqb-true j c h)
is_col_true c (Con k) h = absurd (cc)
is_col_true c Cost h = absurd (cc)

-- the place of an element that passes a test
abbrev pub Stands : List Form → Form → Type 0
Stands forms f = (i : ℕ) × (i < length forms) × (form_at forms i ≡ f)

stands_from : (c : ℕ) (forms : List Form) → list_any (is_col c) forms ≡ true → Stands forms (Col c)
stands_from c forms h =
    let any = Any-from_list_any (is_col c) forms h in
    (any.0, any.2, get_or_default forms any.0 Cost any.1 any.2 ∙ any.3 ∙ is_col_true c any.1 any.4)

is_col_same : (c : ℕ) → is_col c (Col c) ≡ true
unfolding is_col
is_col_same c = eq-eqb c c refl

column_listed : (a : Instance) (c : ℕ) → c < a.columns → list_any (is_col c) (forms_of a) ≡ true
column_listed a c h =
    let cols = map Col (range_with_len 0 a.columns) in
    let rest = map Con (range_with_len 0 (length a.constraints)) ++ Cost ∷ [] in
    let size : length cols ≡ a.columns = length-map-range_with_len Col 0 a.columns in
    let inside : c < length cols = omega (arith, h, size) in
    let within : c < length (cols ++ rest) = omega (arith, inside, length-append cols rest) in
    let at : get_or (cols ++ rest) c Cost ≡ Col c = get_or_append_left cols rest Cost c inside ∙ get_or-map-range_with_len Col 0 a.columns c c Cost h (omega arith) in
    list_any_at (is_col c) (cols ++ rest) c Cost within (ap (is_col c) at ∙ is_col_same c)

pub column_stands : (a : Instance) (d : Dictionary) (c : ℕ) → IsDictionaryOf a d → c < a.columns → Stands d.nonbasic (Col c) ⊎ Stands d.basic (Col c)
column_stands a d c of h =
    let both : list_any (is_col c) (d.nonbasic ++ d.basic) ≡ true = sym (list_any-IsPermutation (is_col c) (forms_of a) (d.nonbasic ++ d.basic) of.forms) ∙ column_listed a c h in
    elim (or_cases (list_any (is_col c) d.nonbasic) (list_any (is_col c) d.basic) (sym (list_any-append (is_col c) d.nonbasic d.basic) ∙ both)) [
      | inl n ↦ inl (stands_from c d.nonbasic n)
      | inr b ↦ inr (stands_from c d.basic b)
    ]

-- ---- a function of the columns as a row

pub record Written (a : Instance) (d : Dictionary) (u x : ℕ → ℤ) (one : ℤ) (f : (ℕ → ℤ) → ℤ) : Type 0 where
  pub row : Equation
  pub positive : pos 0 <ℤ row.den
  pub below : AllByRecursion (λ t. t.0 < length d.nonbasic) row.entries
  pub everywhere : (y : ℕ → ℤ) (o : ℤ) → Holds row (f y) (λ j. affine_of a (form_at d.nonbasic j) y o) o
  pub here : Holds row (f x) u one

unit_holds : (j : ℕ) (v : ℕ → ℤ) (f o : ℤ) → f ≡ v j → Holds (equation (pos 1) (pos 0) ((j, pos 1) ∷ [])) f v o
unit_holds j v f o e = omega (arith, ints, e, zero-*ℤ o)

abbrev pub SizedRows : Dictionary → Type 0
SizedRows d = (i : ℕ) → i < length d.rows → (pos 0 <ℤ (row_at d.rows i).den) × AllByRecursion (λ t. t.0 < length d.nonbasic) (row_at d.rows i).entries

column_written : (a : Instance) (d : Dictionary) (u x : ℕ → ℤ) (one : ℤ) (c : ℕ) → IsDictionaryOf a d → length d.basic ≡ length d.rows → SizedRows d → IsBase d u x one → c < a.columns → Written a d u x one (λ y. y c)
column_written a d u x one c of size rows base h =
    elim (column_stands a d c of h) [
      | inl n ↦ record {
        row = equation (pos 1) (pos 0) ((n.0, pos 1) ∷ []);
        positive = omega (arith, ints);
        below = (n.1, tt);
        everywhere = λ y o. unit_holds n.0 (λ j. affine_of a (form_at d.nonbasic j) y o) (y c) o (ap (λ (f : Form). affine_of a f y o) (sym n.2));
        here = unit_holds n.0 u (x c) one (base.nonbasic n.0 c n.1 n.2);
      }
      | inr b ↦
          let inside : b.0 < length d.rows = omega (arith, b.1, size) in
          record {
            row = row_at d.rows b.0;
            positive = (rows b.0 inside).0;
            below = (rows b.0 inside).1;
            everywhere = λ y o. subst (λ (f : Form). Holds (row_at d.rows b.0) (affine_of a f y o) (λ j. affine_of a (form_at d.nonbasic j) y o) o) b.2 (of.identities y o b.0 inside);
            here = base.basic b.0 c inside b.2;
          }
    ]

abbrev both_rows : ℤ → Equation → Equation → Equation
both_rows z q r = equation (q.den *ℤ r.den) (((z *ℤ r.den) *ℤ q.constant) +ℤ (q.den *ℤ r.constant)) (scale (z *ℤ r.den) q.entries ++ scale q.den r.entries)

both_hold : (z : ℤ) (q r : Equation) (f g : ℤ) (v : ℕ → ℤ) (one : ℤ) → Holds q f v one → Holds r g v one → Holds (both_rows z q r) ((z *ℤ f) +ℤ g) v one
both_hold z q r f g v one hq hr =
    let dq = q.den in
    let dr = r.den in
    let w : weigh (scale (z *ℤ dr) q.entries ++ scale dq r.entries) v ≡ (weigh q.entries v *ℤ (z *ℤ dr)) +ℤ (weigh r.entries v *ℤ dq) = omega (arith, ints, weigh_append (scale (z *ℤ dr) q.entries) (scale dq r.entries) v, weigh_scale (z *ℤ dr) q.entries v, weigh_scale dq r.entries v) in
    let left : (dq *ℤ dr) *ℤ ((z *ℤ f) +ℤ g) ≡ ((z *ℤ dr) *ℤ (dq *ℤ f)) +ℤ (dq *ℤ (dr *ℤ g)) = mul_add_left (dq *ℤ dr) (z *ℤ f) g ∙ ap (λ y. y +ℤ ((dq *ℤ dr) *ℤ g)) (first dq dr z f) ∙ ap (λ y. ((z *ℤ dr) *ℤ (dq *ℤ f)) +ℤ y) (mul_assoc dq dr g) in
    let a : (z *ℤ dr) *ℤ (dq *ℤ f) ≡ ((z *ℤ dr) *ℤ weigh q.entries v) +ℤ ((z *ℤ dr) *ℤ (q.constant *ℤ one)) = ap (λ y. (z *ℤ dr) *ℤ y) hq ∙ mul_add_left (z *ℤ dr) (weigh q.entries v) (q.constant *ℤ one) in
    let b : dq *ℤ (dr *ℤ g) ≡ (dq *ℤ weigh r.entries v) +ℤ (dq *ℤ (r.constant *ℤ one)) = ap (λ y. dq *ℤ y) hr ∙ mul_add_left dq (weigh r.entries v) (r.constant *ℤ one) in
    let c = mul_add_right one ((z *ℤ dr) *ℤ q.constant) (dq *ℤ r.constant) in
    omega (arith, ints, w, left, a, b, c, mul_assoc (z *ℤ dr) q.constant one, mul_assoc dq r.constant one, mul_comm (weigh q.entries v) (z *ℤ dr), mul_comm (weigh r.entries v) dq)
  where
    first : (dq dr z f : ℤ) → (dq *ℤ dr) *ℤ (z *ℤ f) ≡ (z *ℤ dr) *ℤ (dq *ℤ f)
    first dq dr z f = ap (λ y. y *ℤ (z *ℤ f)) (mul_comm dq dr) ∙ mul_shuffle dr dq z f ∙ ap (λ y. y *ℤ (dq *ℤ f)) (mul_comm dr z)

times_positive : (a b : ℤ) → pos 0 <ℤ a → pos 0 <ℤ b → pos 0 <ℤ (a *ℤ b)
times_positive a b ha hb =
    let e = is_pos a ha in
    let m = mul_lt_right (unsigned_abs a) (pos 0) b (omega (arith, ints, ha)) hb in
    let c : b *ℤ pos (unsigned_abs a) ≡ a *ℤ b = ap (λ y. b *ℤ y) (sym e) ∙ mul_comm b a in
    omega (arith, ints, m, c)

nothing_holds : (v : ℕ → ℤ) (one : ℤ) → Holds (equation (pos 1) (pos 0) []) (pos 0) v one
nothing_holds v one = omega (arith, ints, zero-*ℤ one)

-- a sum of columns
terms_written : (a : Instance) (d : Dictionary) (u x : ℕ → ℤ) (one : ℤ) (ts : List (ℕ × ℤ)) → IsDictionaryOf a d → length d.basic ≡ length d.rows → SizedRows d → IsBase d u x one → AllByRecursion (λ t. t.0 < a.columns) ts → Written a d u x one (λ y. weigh ts y)
terms_written a d u x one [] of size rows base named = record {
  row = equation (pos 1) (pos 0) [];
  positive = omega (arith, ints);
  below = tt;
  everywhere = λ y o. nothing_holds (λ j. affine_of a (form_at d.nonbasic j) y o) o;
  here = nothing_holds u one;
}
terms_written a d u x one (t ∷ ts) of size rows base named =
    let q = column_written a d u x one t.0 of size rows base named.0 in
    let r = terms_written a d u x one ts of size rows base named.1 in
    let n = length d.nonbasic in
    record {
      row = both_rows t.1 q.row r.row;
      positive = times_positive q.row.den r.row.den q.positive r.positive;
      below = all_append n (scale (t.1 *ℤ r.row.den) q.row.entries) (scale q.row.den r.row.entries) (all_scale n (t.1 *ℤ r.row.den) q.row.entries q.below) (all_scale n q.row.den r.row.entries r.below);
      everywhere = λ y o. both_hold t.1 q.row r.row (y t.0) (weigh ts y) (λ j. affine_of a (form_at d.nonbasic j) y o) o (q.everywhere y o) (r.everywhere y o);
      here = both_hold t.1 q.row r.row (x t.0) (weigh ts x) u one q.here r.here;
    }

-- ---- a nonbasic constraint

con_holds : (j : ℕ) (v : ℕ → ℤ) (w rhs o : ℤ) → v j ≡ w -ℤ (rhs *ℤ o) → Holds (equation (pos 1) rhs ((j, pos 1) ∷ [])) w v o
con_holds j v w rhs o e = omega (arith, ints, e)

solved : (den w s rhs uj c one : ℤ) → pos 0 <ℤ den → den *ℤ w ≡ s +ℤ (c *ℤ one) → s *ℤ pos 1 ≡ ((pos 1 *ℤ uj) +ℤ pos 0) *ℤ den → c *ℤ pos 1 ≡ rhs *ℤ den → w -ℤ (rhs *ℤ one) ≡ uj
solved den w s rhs uj c one hd h hs hc =
    let s1 : s ≡ uj *ℤ den = omega (arith, ints, hs, ap (λ z. z *ℤ den) (one_less uj)) in
    let c1 : c *ℤ one ≡ (rhs *ℤ one) *ℤ den = ap (λ z. z *ℤ one) (omega (arith, ints, hc)) ∙ mul_assoc rhs den one ∙ ap (λ z. rhs *ℤ z) (mul_comm den one) ∙ sym (mul_assoc rhs one den) in
    let e : w *ℤ den ≡ (uj +ℤ (rhs *ℤ one)) *ℤ den = omega (arith, ints, mul_comm w den, h, s1, c1, mul_add_right den uj (rhs *ℤ one)) in
    let k = is_pos den hd in
    let f : w ≡ uj +ℤ (rhs *ℤ one) = mul_cancel_right (unsigned_abs den) w (uj +ℤ (rhs *ℤ one)) (omega (arith, ints, hd)) (subst (λ (z : ℤ). w *ℤ z ≡ (uj +ℤ (rhs *ℤ one)) *ℤ z) k e) in
    omega (arith, ints, f)
  where
    one_less : (z : ℤ) → (pos 1 *ℤ z) +ℤ pos 0 ≡ z
    one_less z = omega (arith, ints)

con_base : (a : Instance) (d : Dictionary) (u x : ℕ → ℤ) (one : ℤ) (j k : ℕ) → IsDictionaryOf a d → length d.basic ≡ length d.rows → SizedRows d → IsBase d u x one → AllByRecursion (λ t. t.0 < a.columns) (constraint_at a k).terms → j < length d.nonbasic → form_at d.nonbasic j ≡ Con k → affine_of a (Con k) x one ≡ u j
con_base a d u x one j k of size rows base named h form =
    let ts = (constraint_at a k).terms in
    let rhs = (constraint_at a k).rhs in
    let n = length d.nonbasic in
    let w = terms_written a d u x one ts of size rows base named in
    let m : Equation = equation (pos 1) rhs ((j, pos 1) ∷ []) in
    let below : AllByRecursion (λ t. t.0 < n) m.entries = (h, tt) in
    let same = determined n w.row m (λ y o. weigh ts y) (affine_at a d.nonbasic) of.independent w.below below w.everywhere (λ y o. con_holds j (λ i. affine_of a (form_at d.nonbasic i) y o) (weigh ts y) rhs o (ap (λ (f : Form). affine_of a f y o) form)) in
    let sum = weigh_multiple n w.row.entries m.entries u (pos 1) w.row.den w.below below (λ l lt. same.entries l) in
    solved w.row.den (weigh ts x) (weigh w.row.entries u) rhs (u j) w.row.constant one w.positive w.here sum same.constant

base_by : (a : Instance) (d : Dictionary) (u x : ℕ → ℤ) (one : ℤ) (j : ℕ) (f : Form) → IsCase a → IsDictionaryOf a d → length d.basic ≡ length d.rows → SizedRows d → IsBase d u x one → j < length d.nonbasic → form_at d.nonbasic j ≡ f → IsNamed a f → affine_of a f x one ≡ u j
base_by a d u x one j (Col c) kept of size rows base h form named = base.nonbasic j c h form
base_by a d u x one j (Con k) kept of size rows base h form named =
    con_base a d u x one j k of size rows base (recursion_from_All (λ (t : ℕ × ℤ). t.0 < a.columns) (constraint_at a k).terms (constraint_of_case a k kept named).columns_named) h form
base_by a d u x one j Cost kept of size rows base h form named = absurd named

-- each nonbasic form is worth what was asked for
pub base_holds : (a : Instance) (d : Dictionary) (u x : ℕ → ℤ) (one : ℤ) (j : ℕ) → IsCase a → IsDictionaryOf a d → length d.basic ≡ length d.rows → SizedRows d → IsBase d u x one → IsNamed a (form_at d.nonbasic j) → j < length d.nonbasic → affine_of a (form_at d.nonbasic j) x one ≡ u j
base_holds a d u x one j kept of size rows base named h = base_by a d u x one j (form_at d.nonbasic j) kept of size rows base h refl named

-- and each basic form what its row says
pub base_row : (a : Instance) (d : Dictionary) (u x : ℕ → ℤ) (one : ℤ) (i : ℕ) → IsCase a → IsDictionaryOf a d → length d.basic ≡ length d.rows → SizedRows d → IsBase d u x one → ((j : ℕ) → j < length d.nonbasic → IsNamed a (form_at d.nonbasic j)) → i < length d.rows → Holds (row_at d.rows i) (affine_of a (form_at d.basic i) x one) u one
base_row a d u x one i kept of size rows base named h =
    let q = row_at d.rows i in
    let same : weigh q.entries (λ j. affine_of a (form_at d.nonbasic j) x one) ≡ weigh q.entries u = weigh_same_below (length d.nonbasic) q.entries (λ j. affine_of a (form_at d.nonbasic j) x one) u (rows i h).1 (λ j lt. base_holds a d u x one j kept of size rows base (named j lt) lt) in
    of.identities x one i h ∙ ap (λ z. z +ℤ (q.constant *ℤ one)) same
