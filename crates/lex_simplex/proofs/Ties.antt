-- Which of two forms reaches 0 first where their constants tie.
use Rattle.std.proofs.Common.{ℕ, zero, suc, ◌+◌, ◌^◌, to_z, of_z, ◌<◌, ◌≤◌, ◌≡◌, ◌∙◌, refl, sym, ap, subst, arith, ℤ, pos, ◌-ℤ◌, ◌*ℤ◌, neg_ℤ, ◌<ℤ◌, List, length, Bool, true, false}
use Rattle.std.specs.Prelude.{IsTrue, int_lt, not, unsigned_abs, slice_index_or, ◌↔◌}
use Rattle.std.proofs.lemmas.Int.{ints, by_lt_z}
use Rattle.std.proofs.Math.IntN.{*ℤ-zero}
use mir.Syntax.{w64, w128}
use Rattle.lp_base.proofs.Ring.{mul_comm}
use Rattle.lp_base.specs.Numbers.{IsNarrow}
use Rattle.lp_base.proofs.Machine.{again, narrow_again}
use Rattle.nogoods.specs.declared.choice.Choice.{Choice}
use Rattle.lpcc_case.specs.declared.form.Form.TheVariants.{Con}
use Rattle.lpcc_case.specs.Instance.{Instance}
use Rattle.dict.specs.Exchanges.{turn}
use Rattle.dict.specs.Dictionaries.{Dictionary, row_at, form_at, entry_at}
use Rattle.dict.proofs.Pivots.{by_eq}
use Rattle.dict.proofs.Enters.{neg_times}
use Rattle.orders.proofs.Orders.{above_below}
use Rattle.dict.proofs.Exchanges.{positive as times_positive}
use Rattle.walks.specs.Values.{is_fixed, parts, value}
use Rattle.walks.specs.Steps.{Blocks, IsSized, IsSooner, distance, rate}
use Rattle.walks.proofs.Keeps.{free_inside}
use Rattle.lex_simplex.specs.Firsts.{place_at}
use Rattle.lex_simplex.specs.Ratios.{AreSeen, IsCandidate, IsEarliest, IsSeen, lead}
use Rattle.lex_simplex.specs.declared.leave.Candidate.{Candidate}
use Rattle.lex_simplex.specs.declared.tie.Earliest.{Earliest}
use Rattle.lex_simplex.proofs.Firsts.{some_term, zero_from}
use Rattle.lex_simplex.proofs.Leaves.{entry_size, other_value}
use Rattle.lex_simplex.proofs.Shares.{own_value, part_constant, part_none, part_of_place}

-- ---- the eps of a nonbasic constraint

turn_negated : (b : Bool) (z : ℤ) → turn b (neg_ℤ z) ≡ turn (not b) z
turn_negated true z = omega (arith, ints)
turn_negated false z = refl

turn_zero : (b : Bool) (z : ℤ) → z ≡ pos 0 → turn b z ≡ pos 0
turn_zero true z h = omega (arith, ints, h)
turn_zero false z h = h

pub distance_of_place : (a : Instance) (tight : List Choice) (stage : ℕ) (d : Dictionary) (goal_row col : ℕ) (down : Bool) (c : Candidate) (place k : ℕ) → IsSized a d → IsCandidate a tight stage d goal_row col down c → place < length d.nonbasic → form_at d.nonbasic place ≡ Con k → is_fixed a tight k ≡ false → distance a tight d col down c.row (suc k) ≡ turn (not c.rises) (entry_at d c.row place)
distance_of_place a tight stage d goal_row col down c place k sized is hp form free =
    ap (λ z. turn (int_lt (pos 0) (rate d col down c.row)) z) (part_of_place a tight d c.row k place sized is.within hp form free)
    ∙ turn_negated (int_lt (pos 0) (rate d col down c.row)) (entry_at d c.row place)
    ∙ ap (λ b. turn (not b) (entry_at d c.row place)) (sym is.rises)

-- ---- the eps of the two rows' own constraints

-- the sign of a product with a denominator
own_sign : (b : Bool) (e : ℕ) (den other : ℤ) → 0 < e → pos 0 <ℤ den → other ≡ pos 0 → (((other -ℤ (pos e *ℤ turn b den)) ≡ pos 0 → ⊥) × (IsTrue b ↔ (pos 0 <ℤ (other -ℤ (pos e *ℤ turn b den)))))
own_sign true e den other he hd z =
    let up : pos 0 <ℤ (pos e *ℤ den) = times_positive (pos e) den (omega (arith, ints, he)) hd in
    let n : pos e *ℤ neg_ℤ den ≡ neg_ℤ (pos e *ℤ den) = mul_comm (pos e) (neg_ℤ den) ∙ neg_times den (pos e) ∙ ap neg_ℤ (mul_comm den (pos e)) in
    let all : pos 0 <ℤ (other -ℤ (pos e *ℤ neg_ℤ den)) = omega (arith, ints, up, n, z) in
    (λ e0. omega (arith, ints, all, e0), (λ t. all, λ h. refl))
own_sign false e den other he hd z =
    let up : pos 0 <ℤ (pos e *ℤ den) = times_positive (pos e) den (omega (arith, ints, he)) hd in
    (λ e0. omega (arith, ints, up, e0, z), (λ t. absurd (cc), λ h. absurd (omega (arith, ints, up, h, z))))

other_sign : (b : Bool) (e : ℕ) (den other : ℤ) → 0 < e → pos 0 <ℤ den → other ≡ pos 0 → ((((pos e *ℤ turn b den) -ℤ other) ≡ pos 0 → ⊥) × (IsTrue (not b) ↔ (pos 0 <ℤ ((pos e *ℤ turn b den) -ℤ other))))
other_sign false e den other he hd z =
    let up : pos 0 <ℤ (pos e *ℤ den) = times_positive (pos e) den (omega (arith, ints, he)) hd in
    let all : pos 0 <ℤ ((pos e *ℤ den) -ℤ other) = omega (arith, ints, up, z) in
    (λ e0. omega (arith, ints, all, e0), (λ t. all, λ h. refl))
other_sign true e den other he hd z =
    let up : pos 0 <ℤ (pos e *ℤ den) = times_positive (pos e) den (omega (arith, ints, he)) hd in
    let n : pos e *ℤ neg_ℤ den ≡ neg_ℤ (pos e *ℤ den) = mul_comm (pos e) (neg_ℤ den) ∙ neg_times den (pos e) ∙ ap neg_ℤ (mul_comm den (pos e)) in
    (λ e0. omega (arith, ints, up, n, e0, z), (λ t. absurd (cc), λ h. absurd (omega (arith, ints, up, n, h, z))))

distance_own : (a : Instance) (tight : List Choice) (stage : ℕ) (d : Dictionary) (goal_row col : ℕ) (down : Bool) (c : Candidate) (k : ℕ) → IsSized a d → IsCandidate a tight stage d goal_row col down c → form_at d.basic c.row ≡ Con k → is_fixed a tight k ≡ false → distance a tight d col down c.row (suc k) ≡ turn c.rises (row_at d.rows c.row).den
distance_own a tight stage d goal_row col down c k sized is form free =
    ap (λ z. turn (int_lt (pos 0) (rate d col down c.row)) z) (own_value a tight d c.row k sized is.within form free)
    ∙ ap (λ b. turn b (row_at d.rows c.row).den) (sym is.rises)

distance_other : (a : Instance) (tight : List Choice) (d : Dictionary) (col : ℕ) (down : Bool) (i l k : ℕ) → IsSized a d → i < length d.rows → l < length d.rows → (i ≡ l → ⊥) → form_at d.basic i ≡ Con k → is_fixed a tight k ≡ false → distance a tight d col down l (suc k) ≡ pos 0
distance_other a tight d col down i l k sized hi hl other form free = turn_zero (int_lt (pos 0) (rate d col down l)) (value a tight d l (suc k)) (other_value a tight d i l k sized hi hl other form free)

number_of : {l k : ℕ} → Con l ≡ Con k → l ≡ k
number_of e = cc

abbrev constraint_of : (a : Instance) (tight : List Choice) (stage : ℕ) (d : Dictionary) (goal_row col : ℕ) (down : Bool) (c : Candidate) → IsCandidate a tight stage d goal_row col down c → ℕ
constraint_of a tight stage d goal_row col down c is = is.blocks.constraint

pub earliest_own : (a : Instance) (tight : List Choice) (stage : ℕ) (d : Dictionary) (goal_row col : ℕ) (down : Bool) (c b : Candidate) (own other : ℕ) → IsSized a d → IsCandidate a tight stage d goal_row col down c → IsCandidate a tight stage d goal_row col down b → (c.row ≡ b.row → ⊥) → ((k : ℕ) → form_at d.basic c.row ≡ Con k → own ≡ k) → ((k : ℕ) → form_at d.basic b.row ≡ Con k → other ≡ k) → own < other → IsEarliest a tight d col down c.row b.row (record { constraint = own; sooner = c.rises })
earliest_own a tight stage d goal_row col down c b own other sized ic ib differ is_own is_other lt =
    let e : own ≡ ic.blocks.constraint = is_own ic.blocks.constraint ic.blocks.form in
    let form : form_at d.basic c.row ≡ Con own = ic.blocks.form ∙ ap Con (sym e) in
    let free : is_fixed a tight own ≡ false = ap (λ n. is_fixed a tight n) e ∙ ic.blocks.free in
    let far = distance_other a tight d col down c.row b.row own sized ic.within ib.within differ form free in
    let near = distance_own a tight stage d goal_row col down c own sized ic form free in
    let zero : pos (unsigned_abs (entry_at d c.row col)) *ℤ distance a tight d col down b.row (suc own) ≡ pos 0 = ap (λ z. pos (unsigned_abs (entry_at d c.row col)) *ℤ z) far ∙ *ℤ-zero (pos (unsigned_abs (entry_at d c.row col))) in
    let s = own_sign c.rises (unsigned_abs (entry_at d b.row col)) (row_at d.rows c.row).den (pos (unsigned_abs (entry_at d c.row col)) *ℤ distance a tight d col down b.row (suc own)) (entry_size a tight stage goal_row col b.row down d ib.blocks) (sized.rows c.row ic.within).positive zero in
    let t = subst (λ (z : ℤ). (((pos (unsigned_abs (entry_at d c.row col)) *ℤ distance a tight d col down b.row (suc own)) -ℤ (pos (unsigned_abs (entry_at d b.row col)) *ℤ z)) ≡ pos 0 → ⊥) × (IsTrue c.rises ↔ (pos 0 <ℤ ((pos (unsigned_abs (entry_at d c.row col)) *ℤ distance a tight d col down b.row (suc own)) -ℤ (pos (unsigned_abs (entry_at d b.row col)) *ℤ z))))) (sym near) s in
    record {
      within = free_inside a tight own free;
      some = t.0;
      sign = t.1;
      own = λ k f. omega (arith, is_own k f);
      other = λ k f. omega (arith, is_other k f, lt);
    }

pub earliest_other : (a : Instance) (tight : List Choice) (stage : ℕ) (d : Dictionary) (goal_row col : ℕ) (down : Bool) (c b : Candidate) (own other : ℕ) → IsSized a d → IsCandidate a tight stage d goal_row col down c → IsCandidate a tight stage d goal_row col down b → (c.row ≡ b.row → ⊥) → ((k : ℕ) → form_at d.basic c.row ≡ Con k → own ≡ k) → ((k : ℕ) → form_at d.basic b.row ≡ Con k → other ≡ k) → other ≤ own → IsEarliest a tight d col down c.row b.row (record { constraint = other; sooner = not b.rises })
earliest_other a tight stage d goal_row col down c b own other sized ic ib differ is_own is_other le =
    let e : other ≡ ib.blocks.constraint = is_other ib.blocks.constraint ib.blocks.form in
    let form : form_at d.basic b.row ≡ Con other = ib.blocks.form ∙ ap Con (sym e) in
    let free : is_fixed a tight other ≡ false = ap (λ n. is_fixed a tight n) e ∙ ib.blocks.free in
    let far = distance_other a tight d col down b.row c.row other sized ib.within ic.within (λ same. differ (sym same)) form free in
    let near = distance_own a tight stage d goal_row col down b other sized ib form free in
    let zero : pos (unsigned_abs (entry_at d b.row col)) *ℤ distance a tight d col down c.row (suc other) ≡ pos 0 = ap (λ z. pos (unsigned_abs (entry_at d b.row col)) *ℤ z) far ∙ *ℤ-zero (pos (unsigned_abs (entry_at d b.row col))) in
    let s = other_sign b.rises (unsigned_abs (entry_at d c.row col)) (row_at d.rows b.row).den (pos (unsigned_abs (entry_at d b.row col)) *ℤ distance a tight d col down c.row (suc other)) (entry_size a tight stage goal_row col c.row down d ic.blocks) (sized.rows b.row ib.within).positive zero in
    let t = subst (λ (z : ℤ). (((pos (unsigned_abs (entry_at d c.row col)) *ℤ z) -ℤ (pos (unsigned_abs (entry_at d b.row col)) *ℤ distance a tight d col down c.row (suc other))) ≡ pos 0 → ⊥) × (IsTrue (not b.rises) ↔ (pos 0 <ℤ ((pos (unsigned_abs (entry_at d c.row col)) *ℤ z) -ℤ (pos (unsigned_abs (entry_at d b.row col)) *ℤ distance a tight d col down c.row (suc other)))))) (sym near) s in
    record {
      within = free_inside a tight other free;
      some = t.0;
      sign = t.1;
      own = λ k f. omega (arith, is_own k f, le);
      other = λ k f. omega (arith, is_other k f);
    }

-- ---- what was seen

pub seen_later : (a : Instance) (tight : List Choice) (d : Dictionary) (col : ℕ) (down : Bool) (i l : ℕ) (e f : Earliest) (row n : ℕ) → f.constraint ≤ e.constraint → AreSeen a tight d col down i l e row n → AreSeen a tight d col down i l f row n
seen_later a tight d col down i l e f row n le seen x lt k form free before = seen x lt k form free (omega (arith, before, le))

pub seen_more : (a : Instance) (tight : List Choice) (d : Dictionary) (col : ℕ) (down : Bool) (i l : ℕ) (e f : Earliest) (row n : ℕ) → f.constraint ≤ e.constraint → AreSeen a tight d col down i l e row n → IsSeen a tight d col down i l f (place_at (row_at d.rows row).entries n) → AreSeen a tight d col down i l f row (n + 1)
seen_more a tight d col down i l e f row n le seen here x lt =
    by_eq x n
    (λ same. subst (λ (y : ℕ). IsSeen a tight d col down i l f (place_at (row_at d.rows row).entries y)) (sym same) here)
    (λ other. seen_later a tight d col down i l e f row n le seen x (omega (arith, lt, other)))

-- before the constraint that was found nothing tells the rows apart
entry_seen : (a : Instance) (tight : List Choice) (d : Dictionary) (col : ℕ) (down : Bool) (i l : ℕ) (e : Earliest) (row j k : ℕ) → AreSeen a tight d col down i l e row (length (row_at d.rows row).entries) → form_at d.nonbasic j ≡ Con k → is_fixed a tight k ≡ false → k < e.constraint → (lead a tight d col down i l (suc k) ≡ pos 0 → ⊥) → entry_at d row j ≡ pos 0
entry_seen a tight d col down i l e row j k seen form free lt some =
    zero_from (entry_at d row j)
    (λ there.
    let t = some_term (row_at d.rows row).entries j there in
    some (seen t.0 t.1 k (ap (λ n. form_at d.nonbasic n) t.2 ∙ form) free lt))

lead_zero : (a : Instance) (tight : List Choice) (d : Dictionary) (col : ℕ) (down : Bool) (i l p : ℕ) → value a tight d i p ≡ pos 0 → value a tight d l p ≡ pos 0 → lead a tight d col down i l p ≡ pos 0
lead_zero a tight d col down i l p zi zl =
    let di : pos (unsigned_abs (entry_at d l col)) *ℤ distance a tight d col down i p ≡ pos 0 = ap (λ z. pos (unsigned_abs (entry_at d l col)) *ℤ z) (turn_zero (int_lt (pos 0) (rate d col down i)) (value a tight d i p) zi) ∙ *ℤ-zero (pos (unsigned_abs (entry_at d l col))) in
    let dl : pos (unsigned_abs (entry_at d i col)) *ℤ distance a tight d col down l p ≡ pos 0 = ap (λ z. pos (unsigned_abs (entry_at d i col)) *ℤ z) (turn_zero (int_lt (pos 0) (rate d col down l)) (value a tight d l p) zl) ∙ *ℤ-zero (pos (unsigned_abs (entry_at d i col))) in
    omega (arith, ints, di, dl)

no_lead_before : (a : Instance) (tight : List Choice) (d : Dictionary) (col : ℕ) (down : Bool) (i l : ℕ) (e : Earliest) (k : ℕ) → IsSized a d → i < length d.rows → l < length d.rows → IsEarliest a tight d col down i l e → AreSeen a tight d col down i l e i (length (row_at d.rows i).entries) → AreSeen a tight d col down i l e l (length (row_at d.rows l).entries) → k < e.constraint → lead a tight d col down i l (suc k) ≡ pos 0
no_lead_before a tight d col down i l e k sized hi hl is left right lt =
    zero_from (lead a tight d col down i l (suc k))
    (λ some. some (lead_zero a tight d col down i l (suc k)
    (part_none a tight d i k sized hi (omega (arith, lt, is.within)) (λ f. omega (arith, lt, is.own k f)) (λ j hj form free. entry_seen a tight d col down i l e i j k left form free lt some))
    (part_none a tight d l k sized hl (omega (arith, lt, is.within)) (λ f. omega (arith, lt, is.other k f)) (λ j hj form free. entry_seen a tight d col down i l e l j k right form free lt some))))

all_before : (a : Instance) (tight : List Choice) (d : Dictionary) (col : ℕ) (down : Bool) (i l : ℕ) (e : Earliest) → IsSized a d → i < length d.rows → l < length d.rows → IsEarliest a tight d col down i l e → AreSeen a tight d col down i l e i (length (row_at d.rows i).entries) → AreSeen a tight d col down i l e l (length (row_at d.rows l).entries) → lead a tight d col down i l 0 ≡ pos 0 → (q : ℕ) → q < suc e.constraint → lead a tight d col down i l q ≡ pos 0
all_before a tight d col down i l e sized hi hl is left right tie zero lt = tie
all_before a tight d col down i l e sized hi hl is left right tie (suc k) lt = no_lead_before a tight d col down i l e k sized hi hl is left right (omega (arith, lt))

pub decided : (a : Instance) (tight : List Choice) (d : Dictionary) (col : ℕ) (down : Bool) (i l : ℕ) (e : Earliest) → IsSized a d → i < length d.rows → l < length d.rows → IsEarliest a tight d col down i l e → AreSeen a tight d col down i l e i (length (row_at d.rows i).entries) → AreSeen a tight d col down i l e l (length (row_at d.rows l).entries) → lead a tight d col down i l 0 ≡ pos 0 → IsTrue e.sooner ↔ IsSooner a tight d col down i l
decided a tight d col down i l e sized hi hl is left right tie =
    let before = all_before a tight d col down i l e sized hi hl is left right tie in (
      λ t. record { at = suc e.constraint; within = omega (arith, is.within); before = before; number = is.sign.0 t },
      λ sooner. is.sign.1
          (by_lt_z (pos 0) (lead a tight d col down i l (suc e.constraint)) (λ up. up)
          (λ le. by_lt_z (lead a tight d col down i l (suc e.constraint)) (pos 0)
          (λ low. absurd (above_below (parts a) (lead a tight d col down i l) sooner (record { at = suc e.constraint; within = omega (arith, is.within); before = λ q h. ap neg_ℤ (before q h); number = omega (arith, ints, low) })))
          (λ ge. absurd (is.some (omega (arith, ints, le, ge)))))),
    )

-- ---- steps of the code

pub seen_step : (a : Instance) (tight : List Choice) (d : Dictionary) (col : ℕ) (down : Bool) (i l : ℕ) (e : Earliest) (row n : ℕ) (ts : List (ℕ × ℤ)) (t : ℕ × ℤ) → ts ≡ (row_at d.rows row).entries → t ≡ slice_index_or ts n (0, pos 0) → IsSeen a tight d col down i l e t.0 → IsSeen a tight d col down i l e (place_at (row_at d.rows row).entries n)
seen_step a tight d col down i l e row n ts t entries term seen =
    let here : t.0 ≡ place_at (row_at d.rows row).entries n = ap (λ (u : ℕ × ℤ). u.0) term ∙ ap (λ (us : List (ℕ × ℤ)). place_at us n) entries in
    subst (λ (y : ℕ). IsSeen a tight d col down i l e y) here seen

pub seen_here : (a : Instance) (tight : List Choice) (d : Dictionary) (col : ℕ) (down : Bool) (i l : ℕ) (e : Earliest) (place k : ℕ) → form_at d.nonbasic place ≡ Con k → lead a tight d col down i l (suc k) ≡ pos 0 → IsSeen a tight d col down i l e place
seen_here a tight d col down i l e place k form none n f free lt =
    let same : k ≡ n = number_of (sym form ∙ f) in
    ap (λ m. lead a tight d col down i l (suc m)) (sym same) ∙ none

-- of a constraint before e that tells the rows apart
pub earliest_new : (a : Instance) (tight : List Choice) (d : Dictionary) (col : ℕ) (down : Bool) (i l : ℕ) (e : Earliest) (k : ℕ) (r : ℤ) → IsEarliest a tight d col down i l e → k < e.constraint → r ≡ lead a tight d col down i l (suc k) → unsigned_abs r < 2 ^ 127 → (of_z w128 r ≡ 0 → ⊥) → IsEarliest a tight d col down i l (record { constraint = k; sooner = int_lt (pos 0) (to_z w128 (of_z w128 r)) })
earliest_new a tight d col down i l e k r is lt value small some = record {
  within = omega (arith, lt, is.within);
  some = λ z. some (ap (of_z w128) (value ∙ z));
  sign = (
    λ t. subst (λ (z : ℤ). pos 0 <ℤ z) (again r small ∙ value) (above_from (to_z w128 (of_z w128 r)) t),
    λ h. above_to (to_z w128 (of_z w128 r)) (subst (λ (z : ℤ). pos 0 <ℤ z) (sym (again r small ∙ value)) h),
  );
  own = λ n f. omega (arith, is.own n f, lt);
  other = λ n f. omega (arith, is.other n f, lt);
}
  where
    above_from : (z : ℤ) → int_lt (pos 0) z ≡ true → pos 0 <ℤ z
    above_from z e = grind (arith, ints)

    above_to : (z : ℤ) → pos 0 <ℤ z → int_lt (pos 0) z ≡ true
    above_to z h = grind (arith, ints)

-- the numbers of a row whose form reaches 0
size_by : (b : Bool) (z : ℤ) → int_lt (pos 0) z ≡ b → turn (not b) z ≡ pos (unsigned_abs z)
size_by true z e = grind (arith, ints)
size_by false z e = grind (arith, ints)

turned_size : (down : Bool) (z : ℤ) → unsigned_abs (turn down z) ≡ unsigned_abs z
turned_size true z = omega (arith, ints)
turned_size false z = refl

pub candidate_is : (a : Instance) (tight : List Choice) (stage : ℕ) (d : Dictionary) (goal_row col : ℕ) (down : Bool) (i : ℕ) (speed s t k : ℤ) → i < length d.rows → speed ≡ rate d col down i → IsNarrow speed → Blocks a tight stage d goal_row col down i → s ≡ turn (not (int_lt (pos 0) (to_z w64 (of_z w64 speed)))) (to_z w64 (of_z w64 speed)) → IsNarrow s → k ≡ (row_at d.rows i).constant → IsNarrow k → t ≡ turn (int_lt (pos 0) (to_z w64 (of_z w64 speed))) (to_z w64 (of_z w64 k)) → IsNarrow t → IsCandidate a tight stage d goal_row col down (record { row = i; size = to_z w64 (of_z w64 s); far = to_z w64 (of_z w64 t); rises = int_lt (pos 0) (to_z w64 (of_z w64 speed)) })
candidate_is a tight stage d goal_row col down i speed s t k hi is narrow blocks es ns ek nk et nt =
    let v : to_z w64 (of_z w64 speed) ≡ rate d col down i = narrow_again speed narrow ∙ is in
    record {
      within = hi;
      blocks = blocks;
      size = narrow_again s ns ∙ es ∙ ap (λ z. turn (not (int_lt (pos 0) z)) z) v ∙ size_by (int_lt (pos 0) (rate d col down i)) (rate d col down i) refl ∙ ap pos (turned_size down (entry_at d i col));
      far = narrow_again t nt ∙ et ∙ ap (λ z. turn (int_lt (pos 0) z) (to_z w64 (of_z w64 k))) v ∙ ap (λ z. turn (int_lt (pos 0) (rate d col down i)) z) (narrow_again k nk ∙ ek ∙ sym (part_constant a tight d i 0 refl));
      rises = ap (λ z. int_lt (pos 0) z) v;
      narrow_size = subst (λ (z : ℤ). IsNarrow z) (sym (narrow_again s ns)) ns;
      narrow_far = subst (λ (z : ℤ). IsNarrow z) (sym (narrow_again t nt)) nt;
    }
