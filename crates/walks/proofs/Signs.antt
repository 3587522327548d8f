-- The signs of the shares of a row.
use Rattle.std.proofs.Common.{ℕ, zero, suc, ◌<◌, ◌≡◌, ◌∙◌, refl, sym, ap, subst, arith, ℤ, pos, ◌+ℤ◌, ◌-ℤ◌, ◌*ℤ◌, ◌<ℤ◌, ◌≤ℤ◌, List, [], ◌∷◌, length, Bool, true, false, cond, not, ◌⊎◌, inl, inr}
use Rattle.std.specs.List.{AllByRecursion}
use Rattle.std.proofs.lemmas.Int.{ints, by_lt_z}
use Rattle.std.proofs.lemmas.Bool.{eqb-true, not_from_false}
use Rattle.std.proofs.Math.IntN.{zero-*ℤ, *ℤ-zero}
use Rattle.lp_base.proofs.Ring.{mul_comm}
use Rattle.nogoods.specs.declared.choice.Choice.{Choice}
use Rattle.lpcc_case.specs.declared.form.Form.{Form}
use Rattle.lpcc_case.specs.declared.form.Form.TheVariants.{Col, Con, Cost}
use Rattle.lpcc_case.specs.Instance.{Instance}
use Rattle.lpcc_case.specs.Points.{coefficient}
use Rattle.dict.specs.Terms.{weigh}
use Rattle.dict.specs.Exchanges.{turn}
use Rattle.dict.specs.Dictionaries.{Dictionary, row_at, form_at, entry_at}
use Rattle.dict.proofs.Enters.{neg_times}
use Rattle.walks.specs.Values.{is_fixed, at_con, is_con, share}
use Rattle.walks.specs.Duals.{Helps, NoneHelps, NoneFree, IsNamed, is_free}
use Rattle.walks.proofs.Sums.{weigh_positive, upto}

pub turn_times : (b : Bool) (x y : ℤ) → turn b x *ℤ y ≡ turn b (x *ℤ y)
turn_times true x y = neg_times x y
turn_times false x y = refl

pub turn_add : (b : Bool) (x y : ℤ) → turn b (x +ℤ y) ≡ turn b x +ℤ turn b y
turn_add true x y = omega (arith, ints)
turn_add false x y = refl

pub turn_none : (b : Bool) → turn b (pos 0) ≡ pos 0
turn_none true = refl
turn_none false = refl

pub upto_turn : (n : ℕ) (b : Bool) (g : ℕ → ℤ) → upto n (λ k. turn b (g k)) ≡ turn b (upto n g)
upto_turn zero b g = sym (turn_none b)
upto_turn (suc n) b g = omega (arith, ints, upto_turn n b g, turn_add b (upto n g) (g n))

pub zero_or : (z : ℤ) → (z ≡ pos 0) ⊎ (z ≡ pos 0 → ⊥)
zero_or z =
    by_lt_z z (pos 0) (λ below. inr (λ e. omega (arith, ints, below, e)))
    (λ not_below. by_lt_z (pos 0) z (λ above. inr (λ e. omega (arith, ints, above, e))) (λ not_above. inl (omega (arith, ints, not_below, not_above))))

-- where no form helps, each column has no entry
column_by : (a : Instance) (tight : List Choice) (falls : Bool) (f : Form) (z : ℤ) → IsNamed a f → (Helps a tight falls f z → ⊥) → (z ≡ pos 0) ⊎ ((l : ℕ) × (l < length a.constraints) × (f ≡ Con l))
column_by a tight falls (Col j) z named none = elim (zero_or z) [
  | inl e ↦ inl e
  | inr some ↦ absurd (none some)
]
column_by a tight falls (Con k) z named none = inr (k, named, refl)
column_by a tight falls Cost z named none = absurd named

pub only_constraints : (a : Instance) (tight : List Choice) (falls : Bool) (d : Dictionary) (i : ℕ) → ((j : ℕ) → j < length d.nonbasic → IsNamed a (form_at d.nonbasic j)) → NoneHelps a tight falls d i → (j : ℕ) → j < length d.nonbasic → (coefficient (row_at d.rows i).entries j ≡ pos 0) ⊎ ((l : ℕ) × (l < length a.constraints) × (form_at d.nonbasic j ≡ Con l))
only_constraints a tight falls d i named none j h = column_by a tight falls (form_at d.nonbasic j) (entry_at d i j) (named j h) (none j h)

free_by : (a : Instance) (tight : List Choice) (f : Form) (z : ℤ) → IsNamed a f → (is_free a tight f ≡ true → z ≡ pos 0) → (z ≡ pos 0) ⊎ ((l : ℕ) × (l < length a.constraints) × (f ≡ Con l))
free_by a tight (Col j) z named none = inl (none refl)
free_by a tight (Con k) z named none = inr (k, named, refl)
free_by a tight Cost z named none = absurd named

pub only_fixed : (a : Instance) (tight : List Choice) (d : Dictionary) (i : ℕ) → ((j : ℕ) → j < length d.nonbasic → IsNamed a (form_at d.nonbasic j)) → NoneFree a tight d i → (j : ℕ) → j < length d.nonbasic → (coefficient (row_at d.rows i).entries j ≡ pos 0) ⊎ ((l : ℕ) × (l < length a.constraints) × (form_at d.nonbasic j ≡ Con l))
only_fixed a tight d i named none j h = free_by a tight (form_at d.nonbasic j) (entry_at d i j) (named j h) (none j h)

pub weigh_turn : (b : Bool) (ts : List (ℕ × ℤ)) (v : ℕ → ℤ) → weigh ts (λ j. turn b (v j)) ≡ turn b (weigh ts v)
weigh_turn b [] v = sym (turn_none b)
weigh_turn b (t ∷ ts) v =
    let swap : t.1 *ℤ turn b (v t.0) ≡ turn b (t.1 *ℤ v t.0) = mul_comm t.1 (turn b (v t.0)) ∙ turn_times b (v t.0) t.1 ∙ ap (λ z. turn b z) (mul_comm (v t.0) t.1) in
    omega (arith, ints, swap, weigh_turn b ts v, turn_add b (t.1 *ℤ v t.0) (weigh ts v))

not_above : (b : Bool) (z : ℤ) → (pos 0 <ℤ turn b z → ⊥) → pos 0 ≤ℤ turn (not b) z
not_above true z h = by_lt_z z (pos 0) (λ below. absurd (h (omega (arith, ints, below)))) (λ ge. ge)
not_above false z h = by_lt_z (pos 0) z (λ above. absurd (h above)) (λ le. omega (arith, ints, le))

-- what a nonbasic form gives to the share of constraint k
term_by : (a : Instance) (tight : List Choice) (falls c : Bool) (k : ℕ) (f : Form) (z : ℤ) → is_fixed a tight k ≡ false → is_con k f ≡ c → (Helps a tight falls f z → ⊥) → pos 0 ≤ℤ (z *ℤ turn (not falls) (cond c (pos 1) (pos 0)))
term_by a tight falls false k f z free e none = subst (λ (y : ℤ). pos 0 ≤ℤ y) (sym (ap (λ y. z *ℤ y) (turn_none (not falls)) ∙ *ℤ-zero z)) (omega (arith, ints))
term_by a tight falls true k (Con l) z free e none =
    let same : l ≡ k = eqb-true l k e in
    let fixed : not (is_fixed a tight l) ≡ true = not_from_false (is_fixed a tight l) (ap (λ n. is_fixed a tight n) same ∙ free) in
    let le = not_above falls z (λ above. none (fixed, above)) in
    let one : z *ℤ turn (not falls) (pos 1) ≡ turn (not falls) z = mul_comm z (turn (not falls) (pos 1)) ∙ turn_times (not falls) (pos 1) z ∙ ap (λ y. turn (not falls) y) (omega (arith, ints)) in
    subst (λ (y : ℤ). pos 0 ≤ℤ y) (sym one) le
term_by a tight falls true k (Col j) z free e none = absurd (cc)
term_by a tight falls true k Cost z free e none = absurd (cc)

turn_less : (b : Bool) (x y : ℤ) → pos 0 ≤ℤ turn b x → pos 0 ≤ℤ turn (not b) y → pos 0 ≤ℤ turn b (x -ℤ y)
turn_less true x y h k = omega (arith, ints, h, k)
turn_less false x y h k = omega (arith, ints, h, k)

-- where no form helps, the shares of the constraints that are not fixed have the right sign
pub share_sign : (a : Instance) (tight : List Choice) (falls : Bool) (d : Dictionary) (i k : ℕ) (f : Form) → AllByRecursion (λ t. t.0 < length d.nonbasic) (row_at d.rows i).entries → NoneHelps a tight falls d i → is_fixed a tight k ≡ false → pos 0 ≤ℤ turn falls ((row_at d.rows i).den *ℤ at_con k f) → pos 0 ≤ℤ turn falls (share (row_at d.rows i) d.nonbasic f k)
share_sign a tight falls d i k f below none free own =
    let q = row_at d.rows i in
    let v : ℕ → ℤ = λ j. at_con k (form_at d.nonbasic j) in
    let sum : pos 0 ≤ℤ weigh q.entries (λ j. turn (not falls) (v j)) = weigh_positive (length d.nonbasic) q.entries (λ j. turn (not falls) (v j)) below (λ j h. term_by a tight falls (is_con k (form_at d.nonbasic j)) k (form_at d.nonbasic j) (coefficient q.entries j) free refl (none j h)) in
    turn_less falls (q.den *ℤ at_con k f) (weigh q.entries v) own (subst (λ (z : ℤ). pos 0 ≤ℤ z) (weigh_turn (not falls) q.entries v) sum)

-- where no form that may change has an entry, they are 0
free_term_by : (a : Instance) (tight : List Choice) (c : Bool) (k : ℕ) (f : Form) (z : ℤ) → is_fixed a tight k ≡ false → is_con k f ≡ c → (is_free a tight f ≡ true → z ≡ pos 0) → z *ℤ cond c (pos 1) (pos 0) ≡ z *ℤ pos 0
free_term_by a tight false k f z free e none = refl
free_term_by a tight true k (Con l) z free e none =
    let same : l ≡ k = eqb-true l k e in
    let z0 = none (not_from_false (is_fixed a tight l) (ap (λ n. is_fixed a tight n) same ∙ free)) in
    ap (λ y. y *ℤ pos 1) z0 ∙ zero-*ℤ (pos 1) ∙ sym (*ℤ-zero z)
free_term_by a tight true k (Col j) z free e none = absurd (cc)
free_term_by a tight true k Cost z free e none = absurd (cc)

pub share_none : (a : Instance) (tight : List Choice) (d : Dictionary) (i k : ℕ) (f : Form) → AllByRecursion (λ t. t.0 < length d.nonbasic) (row_at d.rows i).entries → NoneFree a tight d i → is_fixed a tight k ≡ false → at_con k f ≡ pos 0 → share (row_at d.rows i) d.nonbasic f k ≡ pos 0
share_none a tight d i k f below none free own =
    let q = row_at d.rows i in
    let w : weigh q.entries (λ j. at_con k (form_at d.nonbasic j)) ≡ weigh q.entries (λ j. pos 0) = Rattle.walks.proofs.Sums.weigh_where (length d.nonbasic) q.entries (λ j. at_con k (form_at d.nonbasic j)) (λ j. pos 0) below (λ j h. free_term_by a tight (is_con k (form_at d.nonbasic j)) k (form_at d.nonbasic j) (coefficient q.entries j) free refl (none j h)) in
    let z : weigh q.entries (λ j. pos 0) ≡ pos 0 = Rattle.dict.proofs.SparseSums.weigh_none q.entries (λ j. pos 0) (λ j. refl) in
    omega (arith, ints, w, z, ap (λ y. q.den *ℤ y) own ∙ *ℤ-zero q.den)
