-- What holds wherever a walk comes to, and why a large budget is never spent.
use Rattle.std.proofs.Common.{ℕ, zero, suc, ◌+◌, ◌<◌, ◌≤◌, ◌≡◌, ◌∙◌, refl, sym, ap, subst, arith, ℤ, pos, ◌+ℤ◌, ◌*ℤ◌, ◌<ℤ◌, List, [], ◌∷◌, ◌++◌, length, map, Bool, true, false, inl, inr}
use Rattle.std.specs.Prelude.{⊤, IsTrue, not}
use Rattle.std.specs.List.{AllByRecursion, IsDistinct, range_with_len}
use Rattle.std.proofs.lemmas.Int.{ints}
use Rattle.std.proofs.lemmas.Bool.{eq-eqb, not-true}
use Rattle.std.proofs.lemmas.Map.Keys.{IsDistinct-IsPermutation}
use Rattle.std.proofs.lemmas.List.{get_or_append_left, get_or_push, length-map}
use Rattle.std.proofs.lemmas.List.FromFn.{length-map-range_with_len, get_or-map-range_with_len}
use Rattle.std.proofs.Math.IntN.{zero-*ℤ}
use Rattle.nogoods.specs.declared.choice.Choice.{Choice}
use Rattle.lpcc_case.specs.declared.form.Form.{Form}
use Rattle.lpcc_case.specs.declared.form.Form.TheVariants.{Col, Con, Cost}
use Rattle.lpcc_case.specs.Cases.{IsCase}
use Rattle.lpcc_case.specs.Instance.{Instance}
use Rattle.lpcc_case.specs.Points.{coefficient}
use Rattle.dict.specs.Terms.{weigh}
use Rattle.dict.specs.Equations.{Equation, Holds}
use Rattle.dict.specs.Dictionaries.{Dictionary, row_at, form_at, entry_at}
use Rattle.dict.specs.Forms.{AreIndependent, IsRowOf, affine_of, affine_at, start_of, forms_of}
use Rattle.dict.proofs.Dictionaries.{nonbasic_other, nonbasic_here}
use Rattle.dict.proofs.Determined.{determined}
use Rattle.dict.proofs.Pivots.{by_eq}
use Rattle.dict.proofs.Starts.{start_is_dictionary, start_of_case}
use Rattle.orders.specs.Counts.{choose}
use Rattle.orders.specs.Order.{IsBelow}
use Rattle.orders.proofs.Orders.{above_cases, by_lt}
use Rattle.walks.specs.Values.{is_fixed, parts, value}
use Rattle.walks.specs.Duals.{IsPlaced, IsNamed, NoneFree, Helps, is_free}
use Rattle.walks.specs.Bases.{AreAbove, ArePassed}
use Rattle.walks.specs.Steps.{IsSized, IsExchanged, IsFixing, IsPivot, goal, is_last}
use Rattle.walks.specs.Climbs.{Standing, IsStanding, Climbs, IsClimb}
use Rattle.walks.specs.Walks.{Place, place, IsSkipped, IsRaised, Leads, IsPath, IsOnWalk, IsSpentEnd, IsSound}
use Rattle.walks.proofs.Sums.{weigh_where}
use Rattle.walks.proofs.Unique.{differ, flips, forms_distinct, apart, value_not_zero}
use Rattle.walks.proofs.Keeps.{basic_stays, basic_enters, rows_same, places_same, below_of, free_inside, pivot_keeps_above, pivot_climbs}
use Rattle.walks.proofs.Climbs.{few_in_a_stage}

-- ---- a basic form has one row

behind : (a : Instance) (xs ys : List Form) → IsDistinct (differ a) (xs ++ ys) → IsDistinct (differ a) ys
unfolding IsDistinct
behind a [] ys h = h
behind a (x ∷ xs) ys h = behind a xs ys h.1

none_at : (P : Form → Type 0) (ys : List Form) (i : ℕ) → i < length ys → AllByRecursion P ys → P (form_at ys i)
none_at P [] i h all = absurd (omega arith)
none_at P (y ∷ ys) zero h all = all.0
none_at P (y ∷ ys) (suc i) h all = none_at P ys i (omega (arith, h)) all.1

one_place : (a : Instance) (ys : List Form) (i l : ℕ) → i < length ys → l < length ys → IsDistinct (differ a) ys → form_at ys i ≡ form_at ys l → i ≡ l
unfolding IsDistinct
one_place a [] i l hi hl h e = absurd (omega arith)
one_place a (y ∷ ys) zero zero hi hl h e = refl
one_place a (y ∷ ys) zero (suc l) hi hl h e =
    let no = none_at (λ g. differ a y g ≡ false) ys l (omega (arith, hl)) h.0 in
    let yes : differ a y (form_at ys l) ≡ true = eq-eqb (Rattle.lpcc_case.specs.Forms.number a y) (Rattle.lpcc_case.specs.Forms.number a (form_at ys l)) (ap (Rattle.lpcc_case.specs.Forms.number a) e) in
    absurd (cc (no, yes))
one_place a (y ∷ ys) (suc i) zero hi hl h e =
    let no = none_at (λ g. differ a y g ≡ false) ys i (omega (arith, hi)) h.0 in
    let yes : differ a y (form_at ys i) ≡ true = eq-eqb (Rattle.lpcc_case.specs.Forms.number a y) (Rattle.lpcc_case.specs.Forms.number a (form_at ys i)) (ap (Rattle.lpcc_case.specs.Forms.number a) (sym e)) in
    absurd (cc (no, yes))
one_place a (y ∷ ys) (suc i) (suc l) hi hl h e = ap suc (one_place a ys i l (omega (arith, hi)) (omega (arith, hl)) h.1 e)

pub one_row : (a : Instance) (d : Dictionary) (i l : ℕ) → IsSized a d → i < length d.rows → l < length d.rows → form_at d.basic i ≡ form_at d.basic l → i ≡ l
one_row a d i l sized hi hl e =
    let distinct = IsDistinct-IsPermutation (differ a) (flips a) (forms_of a) (d.nonbasic ++ d.basic) sized.of.forms (forms_distinct a) in
    one_place a d.basic i l (omega (arith, hi, sized.size)) (omega (arith, hl, sized.size)) (behind a d.nonbasic d.basic distinct) e

-- ---- rows that were passed over

nonbasic_stays : (a : Instance) (row col j : ℕ) (d e : Dictionary) → IsExchanged a row col d e → (j ≡ col → ⊥) → form_at e.nonbasic j ≡ form_at d.nonbasic j
nonbasic_stays a row col j d e is other = ap (λ fs. form_at fs j) is.nonbasic ∙ nonbasic_other row col j d other

nonbasic_leaves : (a : Instance) (row col : ℕ) (d e : Dictionary) → IsExchanged a row col d e → col < length d.nonbasic → form_at e.nonbasic col ≡ form_at d.basic row
nonbasic_leaves a row col d e is h = ap (λ fs. form_at fs col) is.nonbasic ∙ nonbasic_here row col d h

zero_factor : (z den : ℤ) → pos 0 <ℤ den → z *ℤ den ≡ pos 0 → z ≡ pos 0
zero_factor z den h e =
    let k = Rattle.dict.proofs.Machine.is_pos den h in
    let r : z *ℤ pos (Rattle.std.specs.Prelude.unsigned_abs den) ≡ pos 0 *ℤ pos (Rattle.std.specs.Prelude.unsigned_abs den) = ap (λ y. z *ℤ y) (sym k) ∙ e ∙ sym (zero-*ℤ (pos (Rattle.std.specs.Prelude.unsigned_abs den))) in
    Rattle.lp_base.proofs.Ring.mul_cancel_right (Rattle.std.specs.Prelude.unsigned_abs den) z (pos 0) (omega (arith, ints, h)) r

row_stays_passed : (a : Instance) (tight : List Choice) (row col i : ℕ) (d e : Dictionary) → IsSized a d → IsExchanged a row col d e → col < length d.nonbasic → i < length d.rows → (i ≡ row → ⊥) → is_free a tight (form_at d.nonbasic col) ≡ true → (row_at d.rows i).constant ≡ pos 0 → NoneFree a tight d i → ((row_at e.rows i).constant ≡ pos 0) × NoneFree a tight e i
row_stays_passed a tight row col i d e sized is hc hi other free zero_constant none =
    let q = row_at d.rows i in
    let s = row_at e.rows i in
    let n = length d.nonbasic in
    let inside : i < length e.rows = omega (arith, hi, rows_same a row col d e sized is) in
    let same_n = places_same a row col d e is in
    let f = form_at d.basic i in
    let here : coefficient q.entries col ≡ pos 0 = none col hc free in
    let below = below_of a d i sized hi in
    let bs : AllByRecursion (λ t. t.0 < n) s.entries = subst (λ (k : ℕ). AllByRecursion (λ t. t.0 < k) s.entries) same_n (below_of a e i is.sized inside) in
    let independent : AreIndependent n (affine_at a e.nonbasic) = subst (λ (k : ℕ). AreIndependent k (affine_at a e.nonbasic)) same_n is.sized.of.independent in
    let hq : IsRowOf q (affine_of a f) (affine_at a e.nonbasic) = λ x one.
    let w : weigh q.entries (λ j. affine_of a (form_at e.nonbasic j) x one) ≡ weigh q.entries (λ j. affine_of a (form_at d.nonbasic j) x one) = weigh_where n q.entries (λ j. affine_of a (form_at e.nonbasic j) x one) (λ j. affine_of a (form_at d.nonbasic j) x one) below
    (λ j lt.
    by_eq j col
    (λ same.
    let z : coefficient q.entries j ≡ pos 0 = ap (λ k. coefficient q.entries k) same ∙ here in
    ap (λ y. y *ℤ affine_of a (form_at e.nonbasic j) x one) z ∙ zero-*ℤ (affine_of a (form_at e.nonbasic j) x one) ∙ sym (ap (λ y. y *ℤ affine_of a (form_at d.nonbasic j) x one) z ∙ zero-*ℤ (affine_of a (form_at d.nonbasic j) x one)))
    (λ apart_here. ap (λ g. coefficient q.entries j *ℤ affine_of a g x one) (nonbasic_stays a row col j d e is apart_here))) in
    sized.of.identities x one i hi ∙ ap (λ z. z +ℤ (q.constant *ℤ one)) (sym w) in
    let hs : IsRowOf s (affine_of a f) (affine_at a e.nonbasic) = subst (λ (g : Form). IsRowOf s (affine_of a g) (affine_at a e.nonbasic)) (basic_stays a row col i d e is other) (λ x one. is.sized.of.identities x one i inside) in
    let same = determined n q s (affine_of a f) (affine_at a e.nonbasic) independent below bs hq hs in
    let den = (sized.rows i hi).positive in (
      zero_factor s.constant q.den den (sym same.constant ∙ ap (λ z. z *ℤ s.den) zero_constant ∙ zero-*ℤ s.den),
      λ j lt free_here.
          let z : coefficient q.entries j ≡ pos 0 =
          by_eq j col (λ eq. ap (λ k. coefficient q.entries k) eq ∙ here)
          (λ apart_here. none j (omega (arith, lt, same_n)) (ap (λ g. is_free a tight g) (sym (nonbasic_stays a row col j d e is apart_here)) ∙ free_here)) in
          zero_factor (coefficient s.entries j) q.den den (sym (same.entries j) ∙ ap (λ y. y *ℤ s.den) z ∙ zero-*ℤ s.den),
    )

free_not_con : (a : Instance) (tight : List Choice) (f : Form) (k : ℕ) → is_free a tight f ≡ true → f ≡ Con k → is_fixed a tight k ≡ true → ⊥
free_not_con a tight (Con l) k free e fixed =
    let same : l ≡ k = cc in
    let no = not-true (is_fixed a tight l) free in
    let yes : is_fixed a tight l ≡ true = ap (λ n. is_fixed a tight n) same ∙ fixed in
    absurd (cc (no, yes))
free_not_con a tight (Col j) k free e fixed = absurd (cc)
free_not_con a tight Cost k free e fixed = absurd (cc)

con_same_number : (k l : ℕ) (f : Form) → f ≡ Con k → f ≡ Con l → k ≡ l
con_same_number k l f e e' = cc

-- the leaving form is no fixed constraint looked at before
passed_after : (a : Instance) (tight : List Choice) (looked row col : ℕ) (d e : Dictionary) → IsSized a d → IsExchanged a row col d e → row < length d.rows → col < length d.nonbasic → is_free a tight (form_at d.nonbasic col) ≡ true → ((k : ℕ) → k < looked → is_fixed a tight k ≡ true → form_at d.basic row ≡ Con k → ⊥) → ArePassed a tight looked d → ArePassed a tight looked e
passed_after a tight looked row col d e sized is hr hc free leaving passed i k hi lt form fixed =
    let inside : i < length d.rows = omega (arith, hi, rows_same a row col d e sized is) in
    by_eq i row
    (λ here. absurd (free_not_con a tight (form_at d.nonbasic col) k free (sym (basic_enters a row col d e is (omega (arith, hr, sized.size))) ∙ ap (λ n. form_at e.basic n) (sym here) ∙ form) fixed))
    (λ other.
    let before : form_at d.basic i ≡ Con k = sym (basic_stays a row col i d e is other) ∙ form in
    let p = passed i k inside lt before fixed in
    row_stays_passed a tight row col i d e sized is hc inside other free p.0 p.1)

-- ---- where the forms stand

placed_after : (a : Instance) (row col : ℕ) (d e : Dictionary) → IsSized a d → IsExchanged a row col d e → row < length a.constraints → col < length d.nonbasic → IsPlaced a d → IsPlaced a e
placed_after a row col d e sized is hr hc placed =
    let inside : row < length d.rows = omega (arith, hr, placed.size) in
    record {
      size = rows_same a row col d e sized is ∙ placed.size;
      cost = basic_stays a row col (length a.constraints) d e is (λ eq. omega (arith, eq, hr)) ∙ placed.cost;
      basic = λ i h.
          by_eq i row
          (λ here. subst (λ (n : ℕ). IsNamed a (form_at e.basic n)) (sym here) (subst (λ (f : Form). IsNamed a f) (sym (basic_enters a row col d e is (omega (arith, inside, sized.size)))) (placed.nonbasic col hc)))
          (λ other. subst (λ (f : Form). IsNamed a f) (sym (basic_stays a row col i d e is other)) (placed.basic i h));
      nonbasic = λ j h.
          by_eq j col
          (λ here. subst (λ (n : ℕ). IsNamed a (form_at e.nonbasic n)) (sym here) (subst (λ (f : Form). IsNamed a f) (sym (nonbasic_leaves a row col d e is hc)) (placed.basic row hr)))
          (λ other. subst (λ (f : Form). IsNamed a f) (sym (nonbasic_stays a row col j d e is other)) (placed.nonbasic j (omega (arith, h, places_same a row col d e is))));
    }

cost_not_con : (k : ℕ) → Cost ≡ Con k → ⊥
cost_not_con k e = absurd (cc)

-- the row of a constraint is not that of the cost
pub con_row : (a : Instance) (d : Dictionary) (row k : ℕ) → IsPlaced a d → row < length d.rows → form_at d.basic row ≡ Con k → row < length a.constraints
con_row a d row k placed h form =
    by_lt row (length a.constraints) (λ lt. lt)
    (λ ge.
    let last : row ≡ length a.constraints = omega (arith, ge, h, placed.size) in
    absurd (cost_not_con k (sym placed.cost ∙ ap (λ n. form_at d.basic n) (sym last) ∙ form)))

helps_free : (a : Instance) (tight : List Choice) (falls : Bool) (f : Form) (z : ℤ) → Helps a tight falls f z → is_free a tight f ≡ true
helps_free a tight falls (Col j) z h = refl
helps_free a tight falls (Con k) z h = h.0
helps_free a tight falls Cost z h = absurd h

-- ---- the run of a stage

abbrev pub standing : Dictionary → ℕ → Standing
standing d row = record { at = d; row = row }

pub record Run (a : Instance) (tight : List Choice) (p : Place) : Type 0 where
  pub run : List Standing
  pub size : length run ≡ p.pivots
  pub standing_all : AllByRecursion (IsStanding a p.stage) run
  pub columns : AllByRecursion (λ u. length u.at.nonbasic ≡ a.columns) run
  pub climbs : (row : ℕ) → row < length p.at.rows → form_at p.at.basic row ≡ goal a p.stage → IsClimb a tight p.stage (standing p.at row ∷ run)

pub record Stands (a : Instance) (tight : List Choice) (p : Place) : Type 0 where
  pub sound : IsSound a tight p
  pub looked : p.looked ≤ length a.constraints
  pub early : p.looked < length a.constraints → (p.stage ≡ 0) × (p.pivots ≡ 0)
  pub run : Run a tight p

no_run : (a : Instance) (tight : List Choice) (p : Place) → p.pivots ≡ 0 → Run a tight p
no_run a tight p e = record { run = []; size = sym e; standing_all = tt; columns = tt; climbs = λ row h form. tt }

-- the start
above_none : (a : Instance) (tight : List Choice) (stage : ℕ) (d : Dictionary) → stage ≡ 0 → AreAbove a tight stage d
above_none a tight stage d e i k hi lt form free = absurd (omega (arith, lt, e))

start_placed : (a : Instance) → IsCase a → IsPlaced a (start_of a)
start_placed a kept =
    let m = length a.constraints in
    let is = start_is_dictionary a kept in
    let cons = map Con (range_with_len 0 m) in
    let size : length cons ≡ m = length-map-range_with_len Con 0 m in
    let rows : length (start_of a).rows ≡ m + 1 = Rattle.std.proofs.lemmas.List.length-append (map Rattle.dict.specs.Forms.constraint_row a.constraints) (Rattle.dict.specs.Forms.cost_row a ∷ []) ∙ ap (λ n. n + 1) (length-map a.constraints Rattle.dict.specs.Forms.constraint_row) in
    record {
      size = rows;
      cost = get_or_push cons Cost Cost m size;
      basic = λ i h.
          let inside : i < length cons = omega (arith, h, size) in
          subst (λ (f : Form). IsNamed a f) (sym (get_or_append_left cons (Cost ∷ []) Cost i inside ∙ get_or-map-range_with_len Con 0 m i i Cost h (omega arith))) h;
      nonbasic = λ j h.
          let inside : j < a.columns = omega (arith, h, length-map-range_with_len Col 0 a.columns) in
          subst (λ (f : Form). IsNamed a f) (sym (get_or-map-range_with_len Col 0 a.columns j j Cost inside (omega arith))) inside;
    }

start_sized : (a : Instance) → IsCase a → IsSized a (start_of a)
start_sized a kept =
    let is = start_is_dictionary a kept in
    record { of = start_of_case a kept; size = is.basic; bound = Rattle.std.specs.Prelude.◌^◌ 2 63; rows = λ i h. subst (λ (n : ℕ). Rattle.dict.specs.Equations.IsRow (Rattle.std.specs.Prelude.◌^◌ 2 63) n (row_at (start_of a).rows i)) (sym is.nonbasic) (is.rows i h).0 }

start_stands : (a : Instance) (tight : List Choice) → IsCase a → Stands a tight (place 0 0 0 0 (start_of a))
start_stands a tight kept = record {
  sound = record {
    sized = start_sized a kept;
    placed = start_placed a kept;
    columns = length-map-range_with_len Col 0 a.columns;
    passed = λ i k hi lt form fixed. absurd (omega (arith, lt));
    above = above_none a tight 0 (start_of a) refl;
  };
  looked = omega arith;
  early = λ h. (refl, refl);
  run = no_run a tight (place 0 0 0 0 (start_of a)) refl;
}

-- ---- the four ways on

skip_stands : (a : Instance) (tight : List Choice) (p : Place) → p.looked < length a.constraints → IsSkipped a tight p.looked p.at → Stands a tight p → Stands a tight (place (suc p.looked) p.stage p.pivots p.steps p.at)
skip_stands a tight p lt skipped s =
    let zeros = s.early lt in
    record {
      sound = record {
        sized = s.sound.sized;
        placed = s.sound.placed;
        columns = s.sound.columns;
        passed = λ i k hi below form fixed.
            by_lt k p.looked (λ old. s.sound.passed i k hi old form fixed)
            (λ ge.
            let same : k ≡ p.looked = omega (arith, below, ge) in
            elim skipped [
              | inl free ↦ absurd (cc (free, ap (λ n. is_fixed a tight n) (sym same) ∙ fixed))
              | inr at ↦
                  let row : i ≡ at.0 = one_row a p.at i at.0 s.sound.sized hi at.1 (form ∙ ap Con same ∙ sym at.2) in
                  subst (λ (n : ℕ). ((row_at p.at.rows n).constant ≡ pos 0) × NoneFree a tight p.at n) (sym row) (at.4, at.3)
            ]);
        above = s.sound.above;
      };
      looked = omega (arith, lt);
      early = λ h. zeros;
      run = no_run a tight (place (suc p.looked) p.stage p.pivots p.steps p.at) zeros.1;
    }

fix_stands : (a : Instance) (tight : List Choice) (p : Place) (row col : ℕ) (e : Dictionary) → p.looked < length a.constraints → IsFixing a tight p.looked p.at row col → IsExchanged a row col p.at e → Stands a tight p → Stands a tight (place (suc p.looked) p.stage p.pivots (suc p.steps) e)
fix_stands a tight p row col e lt fix is s =
    let zeros = s.early lt in
    let free : is_free a tight (form_at p.at.nonbasic col) ≡ true = fix.enters.holds.0 in
    let apart_row : (k : ℕ) → k < p.looked → is_fixed a tight k ≡ true → form_at p.at.basic row ≡ Con k → ⊥ = λ k old fixed form. omega (arith, old, con_same_number k p.looked (form_at p.at.basic row) form fix.form) in
    let old = passed_after a tight p.looked row col p.at e s.sound.sized is fix.within fix.enters.within free apart_row s.sound.passed in
    record {
      sound = record {
        sized = is.sized;
        placed = placed_after a row col p.at e s.sound.sized is (con_row a p.at row p.looked s.sound.placed fix.within fix.form) fix.enters.within s.sound.placed;
        columns = places_same a row col p.at e is ∙ s.sound.columns;
        passed = λ i k hi below form fixed.
            by_lt k p.looked (λ before. old i k hi before form fixed)
            (λ ge.
            let same : k ≡ p.looked = omega (arith, below, ge) in
            absurd (apart a e col i is.sized.of (omega (arith, fix.enters.within, places_same a row col p.at e is)) (omega (arith, hi, is.sized.size)) (nonbasic_leaves a row col p.at e is fix.enters.within ∙ fix.form ∙ ap Con (sym same) ∙ sym form)));
        above = above_none a tight p.stage e zeros.0;
      };
      looked = omega (arith, lt);
      early = λ h. zeros;
      run = no_run a tight (place (suc p.looked) p.stage p.pivots (suc p.steps) e) zeros.1;
    }

raise_stands : (a : Instance) (tight : List Choice) (p : Place) → p.looked ≡ length a.constraints → p.stage < length a.constraints → IsRaised a tight p.stage p.at → Stands a tight p → Stands a tight (place p.looked (suc p.stage) 0 p.steps p.at)
raise_stands a tight p looked lt raised s = record {
  sound = record {
    sized = s.sound.sized;
    placed = s.sound.placed;
    columns = s.sound.columns;
    passed = s.sound.passed;
    above = λ i k hi below form free.
        by_lt k p.stage (λ old. s.sound.above i k hi old form free)
        (λ ge.
        let same : k ≡ p.stage = omega (arith, below, ge) in
        elim raised [
          | inl fixed ↦ absurd (cc (free, ap (λ n. is_fixed a tight n) same ∙ fixed))
          | inr other ↦ elim other [
            | inl n ↦ absurd (apart a p.at n.0 i s.sound.sized.of n.1 (omega (arith, hi, s.sound.sized.size)) (n.2 ∙ ap Con (sym same) ∙ sym form))
            | inr b ↦
                let row : i ≡ b.0 = one_row a p.at i b.0 s.sound.sized hi b.1 (form ∙ ap Con same ∙ sym b.2) in
                elim (above_cases (parts a) (value a tight p.at i)) [
                  | inl up ↦ up
                  | inr rest ↦ elim rest [
                    | inl down ↦ absurd (b.3 (subst (λ (n : ℕ). IsBelow (parts a) (value a tight p.at n)) row down))
                    | inr none ↦ absurd (value_not_zero a tight p.at i k s.sound.sized hi (free_inside a tight k free) form free none)
                  ]
                ]
          ]
        ]);
  };
  looked = s.looked;
  early = λ h. absurd (omega (arith, h, looked));
  run = no_run a tight (place p.looked (suc p.stage) 0 p.steps p.at) refl;
}

pivot_stands : (a : Instance) (tight : List Choice) (p : Place) (row col : ℕ) (e : Dictionary) → p.looked ≡ length a.constraints → IsPivot a tight p.stage p.at row col → IsExchanged a row col p.at e → Stands a tight p → Stands a tight (place p.looked p.stage (suc p.pivots) (suc p.steps) e)
pivot_stands a tight p row col e looked pivot is s =
    let leaves = pivot.leaves in
    let hc = pivot.enters.within in
    let g = pivot.goal_row in
    let free = helps_free a tight (is_last a p.stage) (form_at p.at.nonbasic col) (entry_at p.at g col) pivot.enters.holds in
    let apart_row : (k : ℕ) → k < p.looked → is_fixed a tight k ≡ true → form_at p.at.basic row ≡ Con k → ⊥ = λ k old fixed form.
    let same = con_same_number k leaves.blocks.constraint (form_at p.at.basic row) form leaves.blocks.form in
    absurd (cc (leaves.blocks.free, ap (λ n. is_fixed a tight n) (sym same) ∙ fixed)) in
    record {
      sound = record {
        sized = is.sized;
        placed = placed_after a row col p.at e s.sound.sized is (con_row a p.at row leaves.blocks.constraint s.sound.placed leaves.within leaves.blocks.form) hc s.sound.placed;
        columns = places_same a row col p.at e is ∙ s.sound.columns;
        passed = passed_after a tight p.looked row col p.at e s.sound.sized is leaves.within hc free apart_row s.sound.passed;
        above = pivot_keeps_above a tight p.stage row col p.at e s.sound.sized pivot is s.sound.above;
      };
      looked = s.looked;
      early = λ h. absurd (omega (arith, h, looked));
      run = record {
        run = standing p.at g ∷ s.run.run;
        size = ap suc s.run.size;
        standing_all = (record { sized = s.sound.sized; placed = s.sound.placed; within = pivot.stage_row.within; form = pivot.stage_row.form }, s.run.standing_all);
        columns = (s.sound.columns, s.run.columns);
        climbs = λ i hi form.
            let inside : i < length p.at.rows = omega (arith, hi, rows_same a row col p.at e s.sound.sized is) in
            by_eq i row
            (λ here. absurd (apart a p.at col g s.sound.sized.of hc (omega (arith, pivot.stage_row.within, s.sound.sized.size)) (sym (basic_enters a row col p.at e is (omega (arith, leaves.within, s.sound.sized.size))) ∙ ap (λ n. form_at e.basic n) (sym here) ∙ form ∙ sym pivot.stage_row.form)))
            (λ other.
            let before : form_at p.at.basic i ≡ goal a p.stage = sym (basic_stays a row col i p.at e is other) ∙ form in
            let same : i ≡ g = one_row a p.at i g s.sound.sized inside pivot.stage_row.within (before ∙ sym pivot.stage_row.form) in
            let climb : Climbs a tight p.stage (standing p.at g) (standing e i) = subst (λ (n : ℕ). Climbs a tight p.stage (standing p.at g) (standing e n)) (sym same) (pivot_climbs a tight p.stage row col p.at e s.sound.sized pivot is s.sound.above (λ eq. other (same ∙ eq))) in
            (climb, s.run.climbs g pivot.stage_row.within pivot.stage_row.form));
      };
    }

next_stands : (a : Instance) (tight : List Choice) (p q : Place) → Leads a tight p q → Stands a tight p → Stands a tight q
next_stands a tight p q leads s = elim leads [
  | inl skip ↦ subst (λ (r : Place). Stands a tight r) (sym skip.2) (skip_stands a tight p skip.0 skip.1 s)
  | inr other ↦ elim other [
    | inl fix ↦ subst (λ (r : Place). Stands a tight r) (sym fix.6) (fix_stands a tight p fix.1 fix.2 fix.3 fix.0 fix.4 fix.5 s)
    | inr later ↦ elim later [
      | inl raise ↦ subst (λ (r : Place). Stands a tight r) (sym raise.3) (raise_stands a tight p raise.0 raise.1 raise.2 s)
      | inr pivot ↦ subst (λ (r : Place). Stands a tight r) (sym pivot.7) (pivot_stands a tight p pivot.2 pivot.3 pivot.4 pivot.0 pivot.5 pivot.6 s)
    ]
  ]
]

path_stands : (a : Instance) (tight : List Choice) (p : Place) (before : List Place) → IsCase a → IsPath a tight p before → Stands a tight p
path_stands a tight p [] kept path = subst (λ (r : Place). Stands a tight r) (sym path) (start_stands a tight kept)
path_stands a tight p (q ∷ before) kept path = next_stands a tight q p path.0 (path_stands a tight q before kept path.1)

pub walk_is_sound : (a : Instance) (tight : List Choice) (p : Place) → IsCase a → IsOnWalk a tight p → IsSound a tight p
walk_is_sound a tight p kept on = (path_stands a tight p on.0 kept on.1).sound

-- a stage with another pivot to come has made fewer pivots than there are choices
pub large_budget_is_not_spent : (a : Instance) (tight : List Choice) (f : Form) (budget : ℕ) → IsCase a → choose (a.columns + length a.constraints) a.columns ≤ budget → IsSpentEnd a tight f budget → ⊥
large_budget_is_not_spent a tight f budget kept enough spent =
    let p = spent.at in
    let s = path_stands a tight p spent.on.0 kept spent.on.1 in
    let g = spent.another.goal_row in
    let row = spent.another.stage_row in
    let here : IsStanding a p.stage (standing p.at g) = record { sized = s.sound.sized; placed = s.sound.placed; within = row.within; form = row.form } in
    let few = few_in_a_stage a tight p.stage (standing p.at g ∷ s.run.run) (here, s.run.standing_all) (s.sound.columns, s.run.columns) (s.run.climbs g row.within row.form) in
    omega (arith, few, s.run.size, spent.pivots, enough)
