-- The case of a deck means the deck.
use Rattle.std.proofs.Common.{ℕ, ◌<◌, ◌≡◌, refl, sym, ap, subst, ◌∙◌, arith, ℤ, pos, ◌+ℤ◌, ◌*ℤ◌, ◌≤ℤ◌, List, [], ◌∷◌, length, get_or, map, None, Some, All, slice_get}
use Rattle.std.specs.Prelude.{◌↔◌}
use Rattle.std.specs.List.{AllByRecursion}
use Rattle.std.proofs.lemmas.Int.{ints}
use Rattle.std.proofs.lemmas.List.Elements.{recursion_from_All}
use Rattle.lp_nums.specs.Fractions.{Fraction, SameValue}
use Rattle.sense.specs.Senses.{signed}
use Rattle.lpcc_case.specs.Points.{Point, cost_at, left_side}
use Rattle.lpcc_case.specs.Verdicts.{HasValue}
use Rattle.decks.specs.Decks.{IsDeck, entries_of}
use Rattle.decks.specs.declared.deck.Deck.{Deck}
use Rattle.decks.specs.declared.deck.Entry.{Entry}
use Rattle.decks.specs.declared.deck.Row.{Row}
use Rattle.deck_case.specs.CaseParts.{cost_of, cost_terms, offset_of, scale_of, terms_of}
use Rattle.deck_case.specs.DeckCases.{case_of_deck}
use Rattle.deck_case.specs.DeckPoints.{column_value, objective_value, row_value, row_at}
use Rattle.deck_case.specs.Multipliers.{times}
use Rattle.deck_case.specs.Rationals.{negative, product, total}
use Rattle.deck_case.specs.Steps.{IsClearedBy}
use Rattle.deck_case.proofs.BodySteps.{row_at_is}
use Rattle.deck_case.proofs.CaseFacts.{objective_numbers}
use Rattle.deck_case.proofs.CostSums.{dot_coefficient, entry_sum, terms_sum}
use Rattle.deck_case.proofs.RationalLaws.{IsOver, IsWhole, over_plus, over_product, over_whole, value_iff, whole_cleared}
use Rattle.deck_case.proofs.RowSteps.{entries_cleared, rhs_cleared, row_positive}
use Rattle.deck_case.proofs.SignLaws.{dot_signed, lifted_plain, signed_twice}
use Rattle.deck_case.proofs.SideSteps.{positive_product, times_negative}
use Rattle.deck_case.proofs.TermFacts.{entries_named, terms_named}

-- ---- the value of a row

abbrev pub values_at : {n : ℕ} → Point n → List Entry → List Fraction
values_at p es = map (λ e. product e.value (column_value p e.column)) es

entries_over : {n : ℕ} (m : ℕ) (p : Point n) (es : List Entry) → AllByRecursion (λ (e : Entry). IsWhole m e.value) es → IsOver (entry_sum m p.x es) (pos m *ℤ pos p.d) (total (values_at p es))
entries_over m p [] h = omega (arith, ints)
entries_over m p (e ∷ es) h =
    over_plus (times m e.value *ℤ get_or p.x e.column (pos 0)) (entry_sum m p.x es) (pos m *ℤ pos p.d) (product e.value (column_value p e.column)) (total (values_at p es))
    (over_product m p.d e.value (get_or p.x e.column (pos 0)) h.0) (entries_over m p es h.1)

total_positive : {n : ℕ} (m : ℕ) (p : Point n) (es : List Entry) → AllByRecursion (λ (e : Entry). IsWhole m e.value) es → pos 1 ≤ℤ (total (values_at p es)).den
total_positive m p [] h = omega (arith, ints)
total_positive m p (e ∷ es) h =
    positive_product (e.value.den *ℤ pos p.d) (total (values_at p es)).den (positive_product e.value.den (pos p.d) h.0.positive (omega (arith, ints, p.positive))) (total_positive m p es h.1)

-- the sum of a row's terms is its value, over the multiplier and the point's denominator
pub record IsRowSum {n : ℕ} (m : ℕ) (p : Point n) (es : List Entry) : Type 0 where
  pub positive : pos 1 ≤ℤ (total (values_at p es)).den
  pub over : IsOver (left_side (terms_of m es) p.x) (pos m *ℤ pos p.d) (total (values_at p es))
  pub common : pos 1 ≤ℤ (pos m *ℤ pos p.d)

pub row_sum : {n : ℕ} (m : ℕ) (p : Point n) (es : List Entry) → 0 < m → All (λ (e : Entry). IsClearedBy m e.value) es → IsRowSum m p es
row_sum m p es some h =
    let wholes : AllByRecursion (λ (e : Entry). IsWhole m e.value) es = recursion_from_All (λ (e : Entry). IsWhole m e.value) es (λ i d l. whole_cleared m (get_or es i d).value (h i d l)) in record {
      positive = total_positive m p es wholes;
      over = subst (λ w. IsOver w (pos m *ℤ pos p.d) (total (values_at p es))) (sym (terms_sum m p.x es wholes)) (entries_over m p es wholes);
      common = positive_product (pos m) (pos p.d) (omega (arith, ints, some)) (omega (arith, ints, p.positive));
    }

-- ---- the objective

objective_sum : (d : Deck) (p : Point (length d.columns)) → IsDeck d → IsRowSum (scale_of (entries_of d.entries d.objective) (row_at d d.objective)) p (entries_of d.entries d.objective)
objective_sum d p h =
    let es = entries_of d.entries d.objective in
    let r = row_at d d.objective in
    let numbers = objective_numbers d h in
    row_sum (scale_of es r) p es (row_positive r.rhs None es (scale_of es r) numbers refl) (entries_cleared r.rhs None es (scale_of es r) numbers refl)

-- the objective without its constant, times the scale
abbrev plain_cost : (d : Deck) → Point (length d.columns) → ℤ
plain_cost d p = left_side (cost_terms (entries_of d.entries d.objective) (row_at d d.objective)) p.x

cost_is : (d : Deck) (p : Point (length d.columns)) → IsDeck d → cost_at (case_of_deck d) p ≡ signed d.sense (plain_cost d p)
cost_is d p h =
    let es = entries_of d.entries d.objective in
    let ts = cost_terms es (row_at d d.objective) in
    let m = scale_of es (row_at d d.objective) in
    dot_signed d.sense (cost_of (length d.columns) es (row_at d d.objective)) p.x
    ∙ ap (signed d.sense) (dot_coefficient ts p.x (length d.columns) p.size (recursion_from_All (λ t. t.0 < length d.columns) ts (terms_named m (length d.columns) es (entries_named d d.objective h))))

pub cost_law : (d : Deck) (p : Point (length d.columns)) → IsDeck d → SameValue (row_value d d.objective p) (record { num = signed d.sense (cost_at (case_of_deck d) p); den = (case_of_deck d).scale *ℤ pos p.d })
cost_law d p h =
    let m = scale_of (entries_of d.entries d.objective) (row_at d d.objective) in
    let plain = ap (signed d.sense) (cost_is d p h) ∙ signed_twice d.sense (plain_cost d p) in
    subst (λ w. IsOver w (pos m *ℤ pos p.d) (row_value d d.objective p)) (sym plain) (objective_sum d p h).over

-- the cost with the offset
abbrev pub lifted : (d : Deck) → Point (length d.columns) → ℤ
lifted d p = cost_at (case_of_deck d) p +ℤ ((case_of_deck d).offset *ℤ pos p.d)

-- the objective with its constant is the cost with the offset, with the sign of the sense, over the scale and the point's denominator
pub record IsObjective (d : Deck) (p : Point (length d.columns)) : Type 0 where
  pub over : IsOver (signed d.sense (lifted d p)) ((case_of_deck d).scale *ℤ pos p.d) (objective_value d (row_at d d.objective) p)
  pub positive : pos 1 ≤ℤ (objective_value d (row_at d d.objective) p).den
  pub common : pos 1 ≤ℤ ((case_of_deck d).scale *ℤ pos p.d)

pub objective_is : (d : Deck) (p : Point (length d.columns)) → IsDeck d → IsObjective d p
objective_is d p h =
    let es = entries_of d.entries d.objective in
    let row = row_at d d.objective in
    let m = scale_of es row in
    let cleared : IsClearedBy m row.rhs = rhs_cleared row.rhs None es m (objective_numbers d h) refl in
    let less : IsClearedBy m (negative row.rhs) = record { positive = cleared.positive; divides = cleared.divides; small = cleared.small } in
    let constant : IsOver (offset_of es row *ℤ pos p.d) (pos m *ℤ pos p.d) (negative row.rhs) = subst (λ z. IsOver (z *ℤ pos p.d) (pos m *ℤ pos p.d) (negative row.rhs)) (times_negative m row.rhs cleared) (over_whole m p.d (negative row.rhs) (whole_cleared m (negative row.rhs) less)) in
    let sum = objective_sum d p h in
    let plain : signed d.sense (lifted d p) ≡ plain_cost d p +ℤ (offset_of es row *ℤ pos p.d) = lifted_plain d.sense (plain_cost d p) (offset_of es row) (pos p.d) (cost_at (case_of_deck d) p) (case_of_deck d).offset (cost_is d p h) refl in
    record {
      over = subst (λ w. IsOver w (pos m *ℤ pos p.d) (objective_value d row p)) (sym plain) (over_plus (plain_cost d p) (offset_of es row *ℤ pos p.d) (pos m *ℤ pos p.d) (row_value d d.objective p) (negative row.rhs) sum.over constant);
      positive = positive_product (row_value d d.objective p).den row.rhs.den sum.positive cleared.positive;
      common = sum.common;
    }

pub scale_positive : (d : Deck) → IsDeck d → pos 1 ≤ℤ (case_of_deck d).scale
scale_positive d h =
    let es = entries_of d.entries d.objective in
    let row = row_at d d.objective in
    let some : 0 < scale_of es row = row_positive row.rhs None es (scale_of es row) (objective_numbers d h) refl in
    omega (arith, ints, some)

pub value_law : (d : Deck) (p : Point (length d.columns)) (r : Row) (n : ℤ) (k : ℕ) → IsDeck d → slice_get d.rows d.objective ≡ Some r → HasValue (case_of_deck d) p n k ↔ SameValue (objective_value d r p) (record { num = n; den = pos k })
value_law d p r n k h there =
    let same : row_at d d.objective ≡ r = row_at_is d d.objective r there in
    let is = objective_is d p h in
    let iff = value_iff (signed d.sense (lifted d p)) ((case_of_deck d).scale *ℤ pos p.d) n (pos k) (objective_value d (row_at d d.objective) p) is.positive is.common is.over in
    subst (λ (x : Row). HasValue (case_of_deck d) p n k ↔ SameValue (objective_value d x p) (record { num = n; den = pos k })) same iff
