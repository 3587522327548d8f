-- What a point costs in the deck of a problem.
use Rattle.std.proofs.Common.{ℕ, ◌<◌, ◌+◌, ◌≡◌, ◌∙◌, refl, sym, ap, arith, List, [], ◌∷◌, ◌++◌, get_or, length, ℤ, pos, ◌+ℤ◌, ◌*ℤ◌, ◌≤ℤ◌, subst}
use Rattle.std.specs.List.{flat_map, range_with_len}
use Rattle.std.proofs.Math.IntN.{+ℤ_idl, +ℤ_idr, zero-*ℤ}
use Rattle.std.proofs.lemmas.Int.{ints}
use Rattle.deck_case.proofs.DeckMeaning.{value_law}
use Rattle.deck_case.proofs.RationalLaws.{IsOver, over_plus, value_iff}
use Rattle.deck_case.proofs.SideSteps.{positive_product}
use Rattle.deck_case.specs.DeckCases.{case_of_deck}
use Rattle.deck_case.specs.DeckPoints.{row_value}
use Rattle.deck_case.specs.DeckVerdicts.{whole}
use Rattle.deck_case.specs.Rationals.{minus, negative}
use Rattle.decks.specs.declared.deck.Entry.{Entry}
use Rattle.decks.specs.declared.deck.Letter.TheVariants.{N}
use Rattle.front_case.proofs.BilevelDeck as bilevel
use Rattle.front_case.proofs.LcpDeck as lcp
use Rattle.front_deck.specs.Meanings.{spent}
use Rattle.front_text.specs.Problems.{IsBilevel, IsLcp, coefficient_at}
use Rattle.front_text.specs.declared.problem.Bilevel.{Bilevel}
use Rattle.front_text.specs.declared.problem.Lcp.{Lcp}
use Rattle.kkt_front.proofs.BilevelMeaning as bilevel_meaning
use Rattle.kkt_front.proofs.EntrySums.{IsSum, in_other_block, in_row, in_row_all, in_row_append}
use Rattle.kkt_front.proofs.LcpMeaning as lcp_meaning
use Rattle.kkt_front.proofs.Ranges.{sum_same, sum_zero, total_from}
use Rattle.kkt_front.proofs.Rows.{row_sum}
use Rattle.kkt_front.specs.DeckTexts.{line_at, number_at, row_of}
use Rattle.kkt_front.specs.Decks.{bilevel_deck, block, entry, lcp_deck, lcp_entries, lows, multiplier_entries, row, ups, variable_entries}
use Rattle.lp_nums.specs.Fractions.{Fraction, SameValue}
use Rattle.lpcc_case.specs.Points.{Point}
use Rattle.lpcc_case.specs.Verdicts.{HasValue}

-- ---- the objective's entries

at_cost : (x : List ℤ) (j : ℕ) (v : ℤ) (es : List Entry) → in_row 0 x (entry j 0 v ∷ es) ≡ (v *ℤ get_or x j (pos 0)) +ℤ in_row 0 x es
at_cost x j v es = in_row_append 0 x (entry j 0 v ∷ []) es ∙ ap (λ z. z +ℤ in_row 0 x es) (+ℤ_idr (v *ℤ get_or x j (pos 0)))

no_cost : (x : List ℤ) (j first : ℕ) (c : ℕ → ℤ) (n : ℕ) → 0 < first → in_row 0 x (block j first c n) ≡ pos 0
no_cost x j first c n low = in_other_block 0 x j first c n (λ i l e. omega (arith, low, e))

abbrev times_number : List ℤ → ℕ → ℤ → ℤ
times_number x j v = v *ℤ get_or x j (pos 0)

-- no variable of a complementarity problem has a cost
pub lcp_cost : (p : Lcp) (end : ℕ) (x : List ℤ) → in_row 0 x (lcp_deck p end).entries ≡ pos 0
lcp_cost p end x =
    in_row_all 0 x (lcp_entries p) (range_with_len 0 p.size)
    ∙ sum_zero (λ j. in_row 0 x (lcp_entries p j)) 0 p.size (λ j _ _.
    let es = block j 1 (λ i. coefficient_at (row_of p i) j) p.size in
    at_cost x j (pos 0) es ∙ ap (λ z. times_number x j (pos 0) +ℤ z) (no_cost x j 1 (λ i. coefficient_at (row_of p i) j) p.size (omega arith))
    ∙ +ℤ_idr (times_number x j (pos 0)) ∙ zero-*ℤ (get_or x j (pos 0)))

-- ---- of a bilevel problem

abbrev up_block : Bilevel → ℕ → List Entry
up_block b j = block j 1 (λ i. coefficient_at (line_at b.up i).terms j) (ups b)

abbrev low_block : Bilevel → ℕ → List Entry
low_block b j = block j (1 + ups b) (λ i. coefficient_at (line_at b.low i).terms j) (lows b)

abbrev follow_block : Bilevel → ℕ → List Entry
follow_block b i = block (b.nx + b.ny + i) (1 + ups b + lows b) (λ k. coefficient_at (line_at b.low i).terms (b.nx + k)) b.ny

variable_cost : (b : Bilevel) (x : List ℤ) (j : ℕ) → in_row 0 x (variable_entries b j) ≡ times_number x j (number_at b.cost j)
variable_cost b x j =
    let c = times_number x j (number_at b.cost j) in
    at_cost x j (number_at b.cost j) (up_block b j ++ low_block b j)
    ∙ ap (λ z. c +ℤ z) (in_row_append 0 x (up_block b j) (low_block b j)
    ∙ ap (λ z. z +ℤ in_row 0 x (low_block b j)) (no_cost x j 1 (λ i. coefficient_at (line_at b.up i).terms j) (ups b) (omega arith))
    ∙ +ℤ_idl (in_row 0 x (low_block b j)) ∙ no_cost x j (1 + ups b) (λ i. coefficient_at (line_at b.low i).terms j) (lows b) (omega arith))
    ∙ +ℤ_idr c

multiplier_cost : (b : Bilevel) (x : List ℤ) (i : ℕ) → in_row 0 x (multiplier_entries b i) ≡ pos 0
multiplier_cost b x i =
    let j = b.nx + b.ny + i in
    at_cost x j (pos 0) (follow_block b i) ∙ ap (λ z. times_number x j (pos 0) +ℤ z) (no_cost x j (1 + ups b + lows b) (λ k. coefficient_at (line_at b.low i).terms (b.nx + k)) b.ny (omega arith))
    ∙ +ℤ_idr (times_number x j (pos 0)) ∙ zero-*ℤ (get_or x j (pos 0))

pub bilevel_cost : (b : Bilevel) (bounds end : ℕ) (x : List ℤ) → in_row 0 x (bilevel_deck b bounds end).entries ≡ total_from (λ j. number_at b.cost j *ℤ number_at x j) 0 (b.nx + b.ny)
bilevel_cost b bounds end x =
    let variables = flat_map (variable_entries b) (range_with_len 0 (b.nx + b.ny)) in
    let multipliers = flat_map (multiplier_entries b) (range_with_len 0 (lows b)) in
    in_row_append 0 x variables multipliers
    ∙ ap (λ z. in_row 0 x variables +ℤ z) (in_row_all 0 x (multiplier_entries b) (range_with_len 0 (lows b)) ∙ sum_zero (λ i. in_row 0 x (multiplier_entries b i)) 0 (lows b) (λ i _ _. multiplier_cost b x i))
    ∙ +ℤ_idr (in_row 0 x variables)
    ∙ in_row_all 0 x (variable_entries b) (range_with_len 0 (b.nx + b.ny))
    ∙ sum_same (λ j. in_row 0 x (variable_entries b j)) (λ j. number_at b.cost j *ℤ number_at x j) 0 (b.nx + b.ny) (λ j _ _. variable_cost b x j)

-- ---- the value of a point

-- an objective without a constant, which is w / d, has each value that is the same as w / d
without_constant : (w n : ℤ) (d k : ℕ) (f : Fraction) → 0 < d → IsSum w d f → (w *ℤ pos k) ≡ (n *ℤ pos d) → SameValue (minus f (whole (pos 0))) (record { num = n; den = pos k })
without_constant w n d k f some sum same =
    let none = negative (whole (pos 0)) in
    let zero : IsOver (pos 0) (pos d) none = zero-*ℤ (pos d) ∙ sym (zero-*ℤ (pos 1)) in
    let one : pos 1 ≤ℤ pos 1 = omega (arith, ints) in
    let least : pos 1 ≤ℤ pos d = omega (arith, ints, some) in
    let positive = positive_product f.den (pos 1) sum.positive one in
    let over : IsOver w (pos d) (minus f (whole (pos 0))) = subst (λ y. IsOver y (pos d) (minus f (whole (pos 0)))) (+ℤ_idr w) (over_plus w (pos 0) (pos d) f none sum.over zero) in
    (value_iff w (pos d) n (pos k) (minus f (whole (pos 0))) positive least over).0 same

pub lcp_value : (p : Lcp) (end : ℕ) → IsLcp p → (z : Point (length (lcp_deck p end).columns)) → HasValue (case_of_deck (lcp_deck p end)) z (pos 0) 1
lcp_value p end h z =
    let d = lcp_deck p end in
    let sum : IsSum (pos 0) z.d (row_value d 0 z) = subst (λ w. IsSum w z.d (row_value d 0 z)) (lcp_cost p end z.x) (row_sum d 0 z (lcp_meaning.all_whole p end)) in
    (value_law d z (row N 3 (pos 0)) (pos 0) 1 (lcp.is_deck p end h) refl).1 (without_constant (pos 0) (pos 0) z.d 1 (row_value d 0 z) z.positive sum (zero-*ℤ (pos 1) ∙ sym (zero-*ℤ (pos z.d))))

pub bilevel_value : (b : Bilevel) (bounds end : ℕ) → IsBilevel b → (p : Point (length (bilevel_deck b bounds end).columns)) → HasValue (case_of_deck (bilevel_deck b bounds end)) p (spent b p) p.d
bilevel_value b bounds end h p =
    let d = bilevel_deck b bounds end in
    let sum : IsSum (spent b p) p.d (row_value d 0 p) = subst (λ w. IsSum w p.d (row_value d 0 p)) (bilevel_cost b bounds end p.x) (row_sum d 0 p (bilevel_meaning.all_whole b bounds end)) in
    (value_law d p (row N 3 (pos 0)) (spent b p) p.d (bilevel.is_deck b bounds end h) refl).1 (without_constant (spent b p) (spent b p) p.d p.d (row_value d 0 p) p.positive sum refl)
