-- The points that meet the deck of a complementarity problem are its solutions.
use Rattle.std.proofs.Common.{◌≡◌, ℕ, zero, suc, ◌+◌, ◌<◌, List, [], get_or, refl, sym, ap, subst, ◌∙◌, arith, inl, inr, ◌*◌, ℤ, pos, negsuc, neg_ℤ, ◌*ℤ◌, ◌≤ℤ◌, None, Some, slice_get, length}
use Rattle.std.specs.Prelude.{◌↔◌, ◌⊎◌, All, unsigned_abs}
use Rattle.std.specs.List.{range_with_len}
use Rattle.std.proofs.Math.IntN.{zero-*ℤ, *ℤ-zero}
use Rattle.std.proofs.lemmas.Int.{unsigned_abs-mul}
use Rattle.std.proofs.lemmas.List.Elements.{All-nil}
use Rattle.std.proofs.lemmas.List.FromFn.{length-map-range_with_len}
use Rattle.std.proofs.lemmas.List.FromFn.{get_or-map-range_with_len}
use Rattle.lpcc_case.specs.Points.{Point, left_side}
use Rattle.decks.specs.Bounds.{default_column}
use Rattle.decks.specs.declared.deck.Column.{Column}
use Rattle.decks.specs.declared.deck.Letter.TheVariants.{G}
use Rattle.decks.specs.declared.deck.PairLine.{PairLine}
use Rattle.decks.specs.declared.deck.Row as rows
use Rattle.deck_case.specs.DeckPoints.{IsOneOffAt, IsWithin, IsZeroAt, MeetsDeck, column_value, row_value}
use Rattle.deck_case.specs.DeckVerdicts.{whole}
use Rattle.deck_case.specs.Sides.{sides}
use Rattle.lp_nums.specs.Fractions.{SameValue}
use Rattle.front_text.specs.declared.problem.Lcp.{Lcp}
use Rattle.front_text.specs.Problems.{IsLcp, coefficient_at}
use Rattle.kkt_front.specs.DeckTexts.{number_at, row_of}
use Rattle.kkt_front.specs.Decks.{block, lcp_deck, lcp_entries, lcp_pair, lcp_row, listed}
use Rattle.kkt_front.specs.Solutions.{IsSolution, slack}
use Rattle.kkt_front.proofs.Ranges.{sum_of_terms, sum_same}
use Rattle.kkt_front.proofs.EntrySums.{AreWhole, IsSum, behind_cost, in_own_block, in_row, in_row_all, whole_all, whole_block}
use Rattle.kkt_front.proofs.Rows.{column_from_zero, found, from_negated, least_row, row_sum, same_negated, same_row, there}

pub all_whole : (p : Lcp) (end : ℕ) → AreWhole (lcp_deck p end).entries
all_whole p end = whole_all (lcp_entries p) (range_with_len 0 p.size) (λ j. (refl, whole_block j 1 (λ i. coefficient_at (row_of p i) j) p.size))

one_more : (i : ℕ) → 1 + i ≡ suc i
one_more i = omega arith

-- row i of the deck is row i of the matrix
row_is : (p : Lcp) (end : ℕ) (x : List ℤ) (i : ℕ) → IsLcp p → i < p.size → in_row (suc i) x (lcp_deck p end).entries ≡ left_side (row_of p i) x
row_is p end x i h l =
    in_row_all (suc i) x (lcp_entries p) (range_with_len 0 p.size)
    ∙ sum_same (λ j. in_row (suc i) x (lcp_entries p j)) (λ j. coefficient_at (row_of p i) j *ℤ get_or x j (pos 0)) 0 p.size (λ j _ _.
    let es = block j 1 (λ m. coefficient_at (row_of p m) j) p.size in
    behind_cost i x j (pos 0) es ∙ ap (λ k. in_row k x es) (sym (one_more i)) ∙ in_own_block x j 1 (λ m. coefficient_at (row_of p m) j) p.size i l)
    ∙ sum_of_terms (row_of p i) x p.size (h.rows i [] (omega (arith, l, h.size)))

abbrev DeckPoint : Lcp → ℕ → Type 0
DeckPoint p end = Point (length (lcp_deck p end).columns)

value_is : (p : Lcp) (end : ℕ) (z : DeckPoint p end) (i : ℕ) → IsLcp p → i < p.size → IsSum (left_side (row_of p i) z.x) z.d (row_value (lcp_deck p end) (suc i) z)
value_is p end z i h l = subst (λ w. IsSum w z.d (row_value (lcp_deck p end) (suc i) z)) (row_is p end z.x i h l) (row_sum (lcp_deck p end) (suc i) z (all_whole p end))

-- a row is met where its slack is not negative, and at its right-hand side where the slack is 0
row_met : (p : Lcp) (end : ℕ) (z : DeckPoint p end) (i : ℕ) → IsLcp p → i < p.size
    → IsWithin (sides G (whole (neg_ℤ (number_at p.q i))) None).lower (sides G (whole (neg_ℤ (number_at p.q i))) None).upper (row_value (lcp_deck p end) (suc i) z) ↔ (pos 0 ≤ℤ slack p z i)
row_met p end z i h l =
    let q = number_at p.q i in
    let least = least_row (neg_ℤ q) (left_side (row_of p i) z.x) z.d (row_value (lcp_deck p end) (suc i) z) z.positive (value_is p end z i h l) in
    let turn = from_negated q (left_side (row_of p i) z.x) z.d in
    (λ k. turn.0 (least.0 k.above), λ k. record { above = least.1 (turn.1 k); below = tt })

row_tight : (p : Lcp) (end : ℕ) (z : DeckPoint p end) (i : ℕ) → IsLcp p → i < p.size → SameValue (row_value (lcp_deck p end) (suc i) z) (whole (neg_ℤ (number_at p.q i))) ↔ (slack p z i ≡ pos 0)
row_tight p end z i h l =
    let q = number_at p.q i in
    let same = same_row (neg_ℤ q) (left_side (row_of p i) z.x) z.d (row_value (lcp_deck p end) (suc i) z) z.positive (value_is p end z i h l) in
    let turn = same_negated q (left_side (row_of p i) z.x) z.d in
    (λ k. turn.0 (same.0 k), λ k. same.1 (turn.1 k))

-- ---- products that are 0

no_size : (z : ℤ) → unsigned_abs z ≡ 0 → z ≡ pos 0
no_size (pos zero) e = refl
no_size (pos (suc n)) e = absurd (omega (arith, e))
no_size (negsuc n) e = absurd (omega (arith, e))

nat_zero : (a b : ℕ) → a * b ≡ 0 → (a ≡ 0) ⊎ (b ≡ 0)
nat_zero zero b e = inl refl
nat_zero (suc a) zero e = inr refl
nat_zero (suc a) (suc b) e = absurd (omega (arith, e))

product_zero : (a b : ℤ) → (a *ℤ b) ≡ pos 0 → (a ≡ pos 0) ⊎ (b ≡ pos 0)
product_zero a b e = elim (nat_zero (unsigned_abs a) (unsigned_abs b) (sym (unsigned_abs-mul a b) ∙ ap unsigned_abs e)) [
  | inl first ↦ inl (no_size a first)
  | inr second ↦ inr (no_size b second)
]

zero_product : (a b : ℤ) → (b ≡ pos 0) ⊎ (a ≡ pos 0) → (a *ℤ b) ≡ pos 0
zero_product a b (inl e) = ap (λ z. a *ℤ z) e ∙ *ℤ-zero a
zero_product a b (inr e) = ap (λ z. z *ℤ b) e ∙ zero-*ℤ b

-- ---- the pairs

abbrev ZeroAt : (p : Lcp) (end : ℕ) → DeckPoint p end → PairLine → Type 0
ZeroAt p end z q = IsZeroAt (lcp_deck p end) z q.a ⊎ IsZeroAt (lcp_deck p end) z q.b

zero_at : (p : Lcp) (end : ℕ) (z : DeckPoint p end) (i : ℕ) → IsLcp p → i < p.size → ZeroAt p end z (lcp_pair i) → (number_at z.x i *ℤ slack p z i) ≡ pos 0
zero_at p end z i h l (inl row) = zero_product (number_at z.x i) (slack p z i) (inl ((row_tight p end z i h l).0 (subst (λ k. SameValue (row_value (lcp_deck p end) k z) (lcp_row p i).rhs) (one_more i) (row (lcp_row p i) (ap (λ k. slice_get (lcp_deck p end).rows k) (one_more i) ∙ there (lcp_row p) p.size i l)))))
zero_at p end z i h l (inr column) = zero_product (number_at z.x i) (slack p z i) (inr column)

at_zero : (p : Lcp) (end : ℕ) (z : DeckPoint p end) (i : ℕ) → IsLcp p → i < p.size → (number_at z.x i *ℤ slack p z i) ≡ pos 0 → ZeroAt p end z (lcp_pair i)
at_zero p end z i h l e = elim (product_zero (number_at z.x i) (slack p z i) e) [
  | inl column ↦ inr column
  | inr row ↦ inl (λ r k.
      let here : slice_get (lcp_deck p end).rows (suc i) ≡ Some r = ap (λ m. slice_get (lcp_deck p end).rows m) (sym (one_more i)) ∙ k in
      let is = found (lcp_row p) p.size i r here in
      subst (λ m. SameValue (row_value (lcp_deck p end) m z) r.rhs) (sym (one_more i))
      (subst (λ (x : rows.Row). SameValue (row_value (lcp_deck p end) (suc i) z) x.rhs) is.1 ((row_tight p end z i h l).1 row)))
]

pub all_listed : {X : Type 0} (P : X → Type 0) (f : ℕ → X) (n : ℕ) → ((i : ℕ) → i < n → P (f i)) → All P (listed f n)
all_listed P f n h i d l =
    let within : i < n = omega (arith, l, length-map-range_with_len f 0 n) in
    subst P (sym (get_or-map-range_with_len f 0 n i i d within (omega arith))) (h i within)

pub at_listed : {X : Type 0} (P : X → Type 0) (f : ℕ → X) (n i : ℕ) → i < n → All P (listed f n) → P (f i)
at_listed P f n i l h = subst P (get_or-map-range_with_len f 0 n i i (f i) l (omega arith)) (h i (f i) (omega (arith, l, length-map-range_with_len f 0 n)))

-- ---- the law

pub met_is_solution : (p : Lcp) (end : ℕ) (z : DeckPoint p end) → IsLcp p → MeetsDeck (lcp_deck p end) z → IsSolution p z
met_is_solution p end z h m = record {
  nonnegative = λ i l. (column_from_zero z i).0 (m.columns i default_column (there (λ j. default_column) p.size i l));
  met = λ i l. (row_met p end z i h l).0 (m.rows (suc i) (lcp_row p i) (there (lcp_row p) p.size i l) (λ e. omega (arith, e)));
  complementary = λ i l. zero_at p end z i h l (at_listed (ZeroAt p end z) lcp_pair p.size i l m.pairs);
}

rows_met : (p : Lcp) (end : ℕ) (z : DeckPoint p end) → IsLcp p → IsSolution p z → (k : ℕ) (r : rows.Row) → slice_get (lcp_deck p end).rows k ≡ Some r → (k ≡ 0 → ⊥)
    → IsWithin (sides r.letter r.rhs r.range).lower (sides r.letter r.rhs r.range).upper (row_value (lcp_deck p end) k z)
rows_met p end z h s zero r e ne = absurd (ne refl)
rows_met p end z h s (suc i) r e ne =
    let is = found (lcp_row p) p.size i r e in
    subst (λ (x : rows.Row). IsWithin (sides x.letter x.rhs x.range).lower (sides x.letter x.rhs x.range).upper (row_value (lcp_deck p end) (suc i) z)) is.1 ((row_met p end z i h is.0).1 (s.met i is.0))

pub solution_is_met : (p : Lcp) (end : ℕ) (z : DeckPoint p end) → IsLcp p → IsSolution p z → MeetsDeck (lcp_deck p end) z
solution_is_met p end z h s = record {
  rows = rows_met p end z h s;
  columns = λ j c e.
      let is = found (λ i. default_column) p.size j c e in
      subst (λ (x : Column). IsWithin x.lower.value x.upper.value (column_value z j)) is.1 ((column_from_zero z j).1 (s.nonnegative j is.0));
  pairs = all_listed (ZeroAt p end z) lcp_pair p.size (λ i l. at_zero p end z i h l (s.complementary i l));
  groups = All-nil (λ g. IsOneOffAt (lcp_deck p end) z g.items);
}
