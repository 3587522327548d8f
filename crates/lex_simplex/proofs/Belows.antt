-- The sign of the value of a constraint's row.
use Rattle.std.proofs.Common.{ℕ, zero, suc, ◌+◌, ◌<◌, ◌≤◌, ◌≡◌, ◌∙◌, refl, sym, ap, subst, arith, ℤ, pos, neg_ℤ, ◌<ℤ◌, List, length, Bool, true, false, to_z, of_z}
use Rattle.std.specs.Prelude.{IsTrue, int_lt, not}
use mir.Syntax.{w64}
use Rattle.std.proofs.lemmas.Int.{ints, by_lt_z}
use Rattle.lp_base.specs.Numbers.{IsNarrow}
use Rattle.nogoods.specs.declared.choice.Choice.{Choice}
use Rattle.lpcc_case.specs.declared.form.Form.{Form}
use Rattle.lpcc_case.specs.declared.form.Form.TheVariants.{Col, Con, Cost}
use Rattle.lpcc_case.specs.Instance.{Instance}
use Rattle.dict.specs.Dictionaries.{Dictionary, row_at, form_at, entry_at}
use Rattle.orders.specs.Order.{IsAbove, IsBelow, IsZero}
use Rattle.orders.proofs.Orders.{above_below, by_lt}
use Rattle.walks.specs.Values.{is_fixed, parts, value}
use Rattle.lpcc_case.specs.Forms.{number}
use Rattle.walks.specs.Steps.{IsFirst, IsSized}
use Rattle.walks.proofs.Keeps.{free_inside}
use Rattle.lex_simplex.specs.Firsts.{HasEps, is_loose}
use Rattle.lex_simplex.proofs.Firsts.{zero_from}
use Rattle.lex_simplex.proofs.Scans.{scanned}
use Rattle.lex_simplex.proofs.Shares.{own_value, part_constant, part_none, part_of_place}

-- no constraint before this one has an eps in the row
abbrev NoneBefore : Instance → List Choice → Dictionary → ℕ → ℕ → Type 0
NoneBefore a tight d i limit = (j q : ℕ) → j < length d.nonbasic → q < limit → form_at d.nonbasic j ≡ Con q → is_fixed a tight q ≡ false → entry_at d i j ≡ pos 0

number_of : {l k : ℕ} → Con l ≡ Con k → l ≡ k
number_of e = cc

zero_before : (a : Instance) (tight : List Choice) (d : Dictionary) (i k limit : ℕ) → IsSized a d → i < length d.rows → form_at d.basic i ≡ Con k → limit ≤ k → limit ≤ length a.constraints → (row_at d.rows i).constant ≡ pos 0 → NoneBefore a tight d i limit → IsZero (suc limit) (value a tight d i)
zero_before a tight d i k limit sized hi form le inside constant none zero lt = part_constant a tight d i 0 refl ∙ constant
zero_before a tight d i k limit sized hi form le inside constant none (suc q) lt =
    part_none a tight d i q sized hi (omega (arith, lt, inside))
    (λ f. let same : k ≡ q = number_of (sym form ∙ f) in omega (arith, same, lt, le))
    (λ j hj f free. none j q hj (omega (arith, lt)) f free)

-- up to its own eps all is 0
above_by_own : (a : Instance) (tight : List Choice) (d : Dictionary) (i k : ℕ) → IsSized a d → i < length d.rows → form_at d.basic i ≡ Con k → is_fixed a tight k ≡ false → (row_at d.rows i).constant ≡ pos 0 → NoneBefore a tight d i k → IsAbove (parts a) (value a tight d i)
above_by_own a tight d i k sized hi form free constant none =
    let inside = free_inside a tight k free in
    record {
      at = suc k;
      within = omega (arith, inside);
      before = zero_before a tight d i k k sized hi form (omega arith) (omega (arith, inside)) constant none;
      number = subst (λ (z : ℤ). pos 0 <ℤ z) (sym (own_value a tight d i k sized hi form free)) (sized.rows i hi).positive;
    }

loose_of : (a : Instance) (tight : List Choice) (f : Form) (q : ℕ) → f ≡ Con q → is_fixed a tight q ≡ false → is_loose a tight f ≡ true
loose_of a tight (Con l) q e free = let same : l ≡ q = number_of e in ap not (ap (λ n. is_fixed a tight n) same ∙ free)
loose_of a tight (Col j) q e free = absurd (cc)
loose_of a tight Cost q e free = absurd (cc)

pub below_by_constant : (a : Instance) (tight : List Choice) (d : Dictionary) (i : ℕ) (r : ℤ) → r ≡ (row_at d.rows i).constant → IsNarrow r → (of_z w64 r ≡ 0 → ⊥) → (IsTrue (int_lt (to_z w64 (of_z w64 r)) (pos 0)) → IsBelow (parts a) (value a tight d i)) × (IsBelow (parts a) (value a tight d i) → IsTrue (int_lt (to_z w64 (of_z w64 r)) (pos 0)))
below_by_constant a tight d i r is narrow some = scanned (parts a) 0 (value a tight d i) r (omega arith) (λ q lt. absurd (omega (arith, lt))) (is ∙ sym (part_constant a tight d i 0 refl)) narrow some

pub not_below_alone : (a : Instance) (tight : List Choice) (d : Dictionary) (i k : ℕ) → IsSized a d → i < length d.rows → form_at d.basic i ≡ Con k → is_fixed a tight k ≡ false → (row_at d.rows i).constant ≡ pos 0 → ((j : ℕ) → j < length d.nonbasic → HasEps a tight d i j → ⊥) → IsBelow (parts a) (value a tight d i) → ⊥
not_below_alone a tight d i k sized hi form free constant none below =
    above_below (parts a) (value a tight d i)
    (above_by_own a tight d i k sized hi form free constant (λ j q hj lt f loose. zero_from (entry_at d i j) (λ some. none j hj (loose_of a tight (form_at d.nonbasic j) q f loose, some))))
    below

-- the constraint at the first place with an eps
pub record FirstEps (a : Instance) (tight : List Choice) (d : Dictionary) (i place : ℕ) : Type 0 where
  pub constraint : ℕ
  pub form : form_at d.nonbasic place ≡ Con constraint
  pub free : is_fixed a tight constraint ≡ false
  pub none : NoneBefore a tight d i constraint

constraint_here : (a : Instance) (tight : List Choice) (f : Form) → is_loose a tight f ≡ true → (k : ℕ) × (f ≡ Con k) × (is_fixed a tight k ≡ false)
constraint_here a tight (Con k) h = (k, refl, opposite (is_fixed a tight k) h)
  where
    opposite : (b : Bool) → not b ≡ true → b ≡ false
    opposite true h = absurd (cc)
    opposite false h = refl
constraint_here a tight (Col j) h = absurd (cc)
constraint_here a tight Cost h = absurd (cc)

pub first_eps_at : (a : Instance) (tight : List Choice) (d : Dictionary) (i place : ℕ) → IsFirst a d.nonbasic (HasEps a tight d i) place → FirstEps a tight d i place
first_eps_at a tight d i place first =
    let here = constraint_here a tight (form_at d.nonbasic place) first.holds.0 in
    record {
      constraint = here.0;
      form = here.1;
      free = here.2;
      none = λ j q hj lt f loose.
          zero_from (entry_at d i j)
          (λ some.
          let le = first.first j hj (loose_of a tight (form_at d.nonbasic j) q f loose, some) in
          let le2 : a.columns + here.0 ≤ number a (form_at d.nonbasic j) = subst (λ (g : Form). number a g ≤ number a (form_at d.nonbasic j)) here.1 le in
          let le3 : a.columns + here.0 ≤ a.columns + q = subst (λ (g : Form). a.columns + here.0 ≤ number a g) f le2 in
          omega (arith, le3, lt));
    }

-- its sign is that of this eps where its constraint is before the row's own
below_of_first : (a : Instance) (tight : List Choice) (d : Dictionary) (i k place l : ℕ) → IsSized a d → i < length d.rows → place < length d.nonbasic → form_at d.basic i ≡ Con k → (row_at d.rows i).constant ≡ pos 0 → form_at d.nonbasic place ≡ Con l → is_fixed a tight l ≡ false → NoneBefore a tight d i l → l < k → pos 0 <ℤ entry_at d i place → IsBelow (parts a) (value a tight d i)
below_of_first a tight d i k place l sized hi hp form constant there free none lt up =
    let inside = free_inside a tight l free in
    record {
      at = suc l;
      within = omega (arith, inside);
      before = λ q h. ap neg_ℤ (zero_before a tight d i k l sized hi form (omega (arith, lt)) (omega (arith, inside)) constant none q h);
      number = omega (arith, ints, part_of_place a tight d i l place sized hi hp there free, up);
    }

above_of_first : (a : Instance) (tight : List Choice) (d : Dictionary) (i k place l : ℕ) → IsSized a d → i < length d.rows → place < length d.nonbasic → form_at d.basic i ≡ Con k → (row_at d.rows i).constant ≡ pos 0 → form_at d.nonbasic place ≡ Con l → is_fixed a tight l ≡ false → NoneBefore a tight d i l → l < k → entry_at d i place <ℤ pos 0 → IsAbove (parts a) (value a tight d i)
above_of_first a tight d i k place l sized hi hp form constant there free none lt low =
    let inside = free_inside a tight l free in
    record {
      at = suc l;
      within = omega (arith, inside);
      before = zero_before a tight d i k l sized hi form (omega (arith, lt)) (omega (arith, inside)) constant none;
      number = omega (arith, ints, part_of_place a tight d i l place sized hi hp there free, low);
    }

-- below 0 exactly where that constraint is before the row's own and its entry is above 0
pub is_below_first : (a : Instance) (tight : List Choice) (d : Dictionary) (i k place : ℕ) → IsSized a d → i < length d.rows → form_at d.basic i ≡ Con k → is_fixed a tight k ≡ false → (row_at d.rows i).constant ≡ pos 0 → (first : IsFirst a d.nonbasic (HasEps a tight d i) place) → ((first_eps_at a tight d i place first).constraint < k → pos 0 <ℤ entry_at d i place → IsBelow (parts a) (value a tight d i)) × (IsBelow (parts a) (value a tight d i) → ((first_eps_at a tight d i place first).constraint < k) × (pos 0 <ℤ entry_at d i place))
is_below_first a tight d i k place sized hi form free constant first =
    let e = first_eps_at a tight d i place first in (
      λ lt up. below_of_first a tight d i k place e.constraint sized hi first.within form constant e.form e.free e.none lt up,
      λ below.
          by_lt e.constraint k
          (λ lt. by_lt_z (pos 0) (entry_at d i place) (λ up. (lt, up))
          (λ le. by_lt_z (entry_at d i place) (pos 0)
          (λ low. absurd (above_below (parts a) (value a tight d i) (above_of_first a tight d i k place e.constraint sized hi first.within form constant e.form e.free e.none lt low) below))
          (λ ge. absurd (first.holds.1 (omega (arith, ints, le, ge))))))
          (λ ge. absurd (above_below (parts a) (value a tight d i) (above_by_own a tight d i k sized hi form free constant (λ j q hj lt f loose. e.none j q hj (omega (arith, lt, ge)) f loose)) below)),
    )
