-- The points that meet the deck of a bilevel problem are those that meet all lines, with multipliers behind them.
use Rattle.std.proofs.Common.{◌≡◌, ℕ, zero, suc, ◌+◌, ◌<◌, List, [], ◌∷◌, ◌++◌, get_or, refl, sym, ap, subst, ◌∙◌, arith, inl, inr, ℤ, pos, ◌+ℤ◌, ◌*ℤ◌, ◌≤ℤ◌, Option, Some, slice_get, length}
use Rattle.std.specs.Prelude.{◌↔◌, ◌⊎◌}
use Rattle.std.specs.List.{flat_map, range_with_len}
use Rattle.std.proofs.Math.IntN.{+ℤ_idl, +ℤ_idr}
use Rattle.std.proofs.lemmas.Int.{ints}
use Rattle.std.proofs.lemmas.List.{length-append}
use Rattle.std.proofs.lemmas.List.Elements.{All-nil}
use Rattle.std.proofs.lemmas.List.FromFn.{length-map-range_with_len}
use Rattle.std.proofs.lemmas.Option.{same_Some}
use Rattle.lp_nums.specs.Fractions.{SameValue}
use Rattle.lpcc_case.specs.Points.{Point, left_side}
use Rattle.decks.specs.Bounds.{default_column}
use Rattle.decks.specs.declared.deck.Column.{Column}
use Rattle.decks.specs.declared.deck.Entry.{Entry}
use Rattle.decks.specs.declared.deck.PairLine.{PairLine}
use Rattle.decks.specs.declared.deck.Row as rows
use Rattle.deck_case.specs.DeckPoints.{IsOneOffAt, IsWithin, IsZeroAt, MeetsDeck, column_value, row_value}
use Rattle.deck_case.specs.Sides.{sides}
use Rattle.front_text.specs.declared.problem.Bilevel.{Bilevel}
use Rattle.front_text.specs.declared.problem.Line.{Line}
use Rattle.front_text.specs.Problems.{IsBilevel, IsLine, coefficient_at}
use Rattle.kkt_front.specs.DeckTexts.{line_at, no_line, number_at}
use Rattle.kkt_front.specs.Decks.{bilevel_deck, bilevel_pair, block, entry, follow_row, free_column, listed, low_row, lows, multiplier_entries, up_row, ups, variable_entries}
use Rattle.kkt_front.specs.Solutions.{IsTightLine, IsWithMultipliers, MeetsLine, multiplier_at, weighed}
use Rattle.kkt_front.proofs.Ranges.{sum_of_terms, sum_same, sum_zero, total_from}
use Rattle.kkt_front.proofs.EntrySums.{AreWhole, IsSum, behind_cost, in_other_block, in_own_block, in_row, in_row_all, in_row_append, whole_all, whole_append, whole_block}
use Rattle.kkt_front.proofs.LcpMeaning.{all_listed, at_listed}
use Rattle.kkt_front.proofs.Rows.{column_from_zero, found, least_row, most_row, row_sum, same_row, there}

-- ---- joined lists by number

pub get_first : {X : Type 0} (xs ys : List X) (k : ℕ) (x : X) → slice_get xs k ≡ Some x → slice_get (xs ++ ys) k ≡ Some x
get_first [] ys k x e = absurd cc
get_first (y ∷ xs) ys zero x e = e
get_first (y ∷ xs) ys (suc k) x e = get_first xs ys k x e

pub get_second : {X : Type 0} (xs ys : List X) (n k : ℕ) (o : Option X) → length xs ≡ n → slice_get ys k ≡ o → slice_get (xs ++ ys) (n + k) ≡ o
get_second [] ys zero k o h e = ap (slice_get ys) (let z : 0 + k ≡ k = omega arith in z) ∙ e
get_second [] ys (suc n) k o h e = absurd (omega (arith, h))
get_second (y ∷ xs) ys zero k o h e = absurd (omega (arith, h))
get_second (y ∷ xs) ys (suc n) k o h e = ap (slice_get (y ∷ xs ++ ys)) (let z : suc n + k ≡ suc (n + k) = omega arith in z) ∙ get_second xs ys n k o (omega (arith, h)) e

abbrev pub Behind : {X : Type 0} → List X → ℕ → ℕ → X → Type 0
Behind ys n k x = (i : ℕ) × (k ≡ n + i) × (slice_get ys i ≡ Some x)

pub get_split : {X : Type 0} (xs ys : List X) (n k : ℕ) (x : X) → length xs ≡ n → slice_get (xs ++ ys) k ≡ Some x → (slice_get xs k ≡ Some x) ⊎ Behind ys n k x
get_split [] ys n k x h e = inr (k, (let z : k ≡ n + k = omega (arith, h) in z), e)
get_split (y ∷ xs) ys n zero x h e = inl e
get_split (y ∷ xs) ys zero (suc k) x h e = absurd (omega (arith, h))
get_split (y ∷ xs) ys (suc n) (suc k) x h e = elim (get_split xs ys n k x (omega (arith, h)) e) [
  | inl first ↦ inl first
  | inr second ↦ inr (second.0, (let z : suc k ≡ suc n + second.0 = omega (arith, second.1) in z), second.2)
]

pub sized : {X : Type 0} (f : ℕ → X) (n : ℕ) → length (listed f n) ≡ n
sized f n = length-map-range_with_len f 0 n

-- ---- the entries of each row

abbrev DeckPoint : Bilevel → ℕ → ℕ → Type 0
DeckPoint b bounds end = Point (length (bilevel_deck b bounds end).columns)

abbrev variables : Bilevel → List Entry
variables b = flat_map (variable_entries b) (range_with_len 0 (b.nx + b.ny))

abbrev multipliers : Bilevel → List Entry
multipliers b = flat_map (multiplier_entries b) (range_with_len 0 (lows b))

abbrev up_block : Bilevel → ℕ → List Entry
up_block b j = block j 1 (λ i. coefficient_at (line_at b.up i).terms j) (ups b)

abbrev low_block : Bilevel → ℕ → List Entry
low_block b j = block j (1 + ups b) (λ i. coefficient_at (line_at b.low i).terms j) (lows b)

abbrev follow_block : Bilevel → ℕ → List Entry
follow_block b i = block (b.nx + b.ny + i) (1 + ups b + lows b) (λ k. coefficient_at (line_at b.low i).terms (b.nx + k)) b.ny

pub all_whole : (b : Bilevel) (bounds end : ℕ) → AreWhole (bilevel_deck b bounds end).entries
all_whole b bounds end =
    whole_append (variables b) (multipliers b)
    (whole_all (variable_entries b) (range_with_len 0 (b.nx + b.ny)) (λ j. (
      refl,
      whole_append (up_block b j) (low_block b j)
          (whole_block j 1 (λ i. coefficient_at (line_at b.up i).terms j) (ups b)) (whole_block j (1 + ups b) (λ i. coefficient_at (line_at b.low i).terms j) (lows b)),
    )))
    (whole_all (multiplier_entries b) (range_with_len 0 (lows b)) (λ i. (refl, whole_block (b.nx + b.ny + i) (1 + ups b + lows b) (λ k. coefficient_at (line_at b.low i).terms (b.nx + k)) b.ny)))

behind_first : (k : ℕ) (x : List ℤ) (j : ℕ) (v : ℤ) (es : List Entry) → 0 < k → in_row k x (entry j 0 v ∷ es) ≡ in_row k x es
behind_first zero x j v es h = absurd (omega (arith, h))
behind_first (suc k) x j v es h = behind_cost k x j v es

in_variable : (b : Bilevel) (k : ℕ) (x : List ℤ) (j : ℕ) → 0 < k → in_row k x (variable_entries b j) ≡ in_row k x (up_block b j) +ℤ in_row k x (low_block b j)
in_variable b k x j h = behind_first k x j (number_at b.cost j) (up_block b j ++ low_block b j) h ∙ in_row_append k x (up_block b j) (low_block b j)

in_multiplier : (b : Bilevel) (k : ℕ) (x : List ℤ) (i : ℕ) → 0 < k → in_row k x (multiplier_entries b i) ≡ in_row k x (follow_block b i)
in_multiplier b k x i h = behind_first k x (b.nx + b.ny + i) (pos 0) (follow_block b i) h

in_all : (b : Bilevel) (bounds end k : ℕ) (x : List ℤ) → in_row k x (bilevel_deck b bounds end).entries ≡ total_from (λ j. in_row k x (variable_entries b j)) 0 (b.nx + b.ny) +ℤ total_from (λ i. in_row k x (multiplier_entries b i)) 0 (lows b)
in_all b bounds end k x =
    in_row_append k x (variables b) (multipliers b)
    ∙ ap (λ z. z +ℤ in_row k x (multipliers b)) (in_row_all k x (variable_entries b) (range_with_len 0 (b.nx + b.ny)))
    ∙ ap (λ z. total_from (λ j. in_row k x (variable_entries b j)) 0 (b.nx + b.ny) +ℤ z) (in_row_all k x (multiplier_entries b) (range_with_len 0 (lows b)))

no_multipliers : (b : Bilevel) (k : ℕ) (x : List ℤ) → 0 < k → k < 1 + ups b + lows b → total_from (λ i. in_row k x (multiplier_entries b i)) 0 (lows b) ≡ pos 0
no_multipliers b k x h l =
    sum_zero (λ i. in_row k x (multiplier_entries b i)) 0 (lows b) (λ i _ _.
    in_multiplier b k x i h ∙ in_other_block k x (b.nx + b.ny + i) (1 + ups b + lows b) (λ m. coefficient_at (line_at b.low i).terms (b.nx + m)) b.ny (λ m _ e. omega (arith, e, l)))

line_sum : (b : Bilevel) (line : Line) (x : List ℤ) → IsLine (b.nx + b.ny) line → total_from (λ j. coefficient_at line.terms j *ℤ get_or x j (pos 0)) 0 (b.nx + b.ny) ≡ left_side line.terms x
line_sum b line x h = sum_of_terms line.terms x (b.nx + b.ny) h.1

up_sum : (b : Bilevel) (bounds end : ℕ) (x : List ℤ) (i : ℕ) → IsBilevel b → i < ups b → in_row (1 + i) x (bilevel_deck b bounds end).entries ≡ left_side (line_at b.up i).terms x
up_sum b bounds end x i h l =
    in_all b bounds end (1 + i) x
    ∙ ap (λ z. total_from (λ j. in_row (1 + i) x (variable_entries b j)) 0 (b.nx + b.ny) +ℤ z) (no_multipliers b (1 + i) x (omega arith) (omega (arith, l)))
    ∙ +ℤ_idr (total_from (λ j. in_row (1 + i) x (variable_entries b j)) 0 (b.nx + b.ny))
    ∙ sum_same (λ j. in_row (1 + i) x (variable_entries b j)) (λ j. coefficient_at (line_at b.up i).terms j *ℤ get_or x j (pos 0)) 0 (b.nx + b.ny) (λ j _ _.
    in_variable b (1 + i) x j (omega arith)
    ∙ ap (λ z. in_row (1 + i) x (up_block b j) +ℤ z) (in_other_block (1 + i) x j (1 + ups b) (λ m. coefficient_at (line_at b.low m).terms j) (lows b) (λ m _ e. omega (arith, e, l)))
    ∙ +ℤ_idr (in_row (1 + i) x (up_block b j))
    ∙ in_own_block x j 1 (λ m. coefficient_at (line_at b.up m).terms j) (ups b) i l)
    ∙ line_sum b (line_at b.up i) x (h.up i no_line l)

low_sum : (b : Bilevel) (bounds end : ℕ) (x : List ℤ) (i : ℕ) → IsBilevel b → i < lows b → in_row (1 + ups b + i) x (bilevel_deck b bounds end).entries ≡ left_side (line_at b.low i).terms x
low_sum b bounds end x i h l =
    let k = 1 + ups b + i in
    in_all b bounds end k x
    ∙ ap (λ z. total_from (λ j. in_row k x (variable_entries b j)) 0 (b.nx + b.ny) +ℤ z) (no_multipliers b k x (omega arith) (omega (arith, l)))
    ∙ +ℤ_idr (total_from (λ j. in_row k x (variable_entries b j)) 0 (b.nx + b.ny))
    ∙ sum_same (λ j. in_row k x (variable_entries b j)) (λ j. coefficient_at (line_at b.low i).terms j *ℤ get_or x j (pos 0)) 0 (b.nx + b.ny) (λ j _ _.
    in_variable b k x j (omega arith)
    ∙ ap (λ z. z +ℤ in_row k x (low_block b j)) (in_other_block k x j 1 (λ m. coefficient_at (line_at b.up m).terms j) (ups b) (λ m lm e. omega (arith, e, lm)))
    ∙ +ℤ_idl (in_row k x (low_block b j))
    ∙ in_own_block x j (1 + ups b) (λ m. coefficient_at (line_at b.low m).terms j) (lows b) i l)
    ∙ line_sum b (line_at b.low i) x (h.low i no_line l)

follow_sum : {n : ℕ} (b : Bilevel) (bounds end : ℕ) (p : Point n) (k : ℕ) → k < b.ny → in_row (1 + ups b + lows b + k) p.x (bilevel_deck b bounds end).entries ≡ weighed b p k
follow_sum b bounds end p k l =
    let r = 1 + ups b + lows b + k in
    let x = p.x in
    in_all b bounds end r x
    ∙ ap (λ z. z +ℤ total_from (λ i. in_row r x (multiplier_entries b i)) 0 (lows b))
    (sum_zero (λ j. in_row r x (variable_entries b j)) 0 (b.nx + b.ny) (λ j _ _.
    in_variable b r x j (omega arith)
    ∙ ap (λ z. z +ℤ in_row r x (low_block b j)) (in_other_block r x j 1 (λ m. coefficient_at (line_at b.up m).terms j) (ups b) (λ m lm e. omega (arith, e, lm)))
    ∙ +ℤ_idl (in_row r x (low_block b j))
    ∙ in_other_block r x j (1 + ups b) (λ m. coefficient_at (line_at b.low m).terms j) (lows b) (λ m lm e. omega (arith, e, lm))))
    ∙ +ℤ_idl (total_from (λ i. in_row r x (multiplier_entries b i)) 0 (lows b))
    ∙ sum_same (λ i. in_row r x (multiplier_entries b i)) (λ i. coefficient_at (line_at b.low i).terms (b.nx + k) *ℤ multiplier_at b p i) 0 (lows b) (λ i _ _.
    in_multiplier b r x i (omega arith) ∙ in_own_block x (b.nx + b.ny + i) (1 + ups b + lows b) (λ m. coefficient_at (line_at b.low i).terms (b.nx + m)) b.ny k l)

-- ---- the rows by number

abbrev row_here : Bilevel → ℕ → ℕ → ℕ → rows.Row → Type 0
row_here b bounds end k r = slice_get (bilevel_deck b bounds end).rows k ≡ Some r

moved : (b : Bilevel) (bounds end k m : ℕ) (r : rows.Row) → k ≡ m → row_here b bounds end k r → row_here b bounds end m r
moved b bounds end k m r e h = ap (slice_get (bilevel_deck b bounds end).rows) (sym e) ∙ h

up_there : (b : Bilevel) (bounds end i : ℕ) → i < ups b → row_here b bounds end (1 + i) (up_row b i)
up_there b bounds end i l =
    moved b bounds end (suc i) (1 + i) (up_row b i) (omega arith)
    (get_first (listed (up_row b) (ups b) ++ listed (low_row b) (lows b)) (listed (follow_row b) b.ny) i (up_row b i)
    (get_first (listed (up_row b) (ups b)) (listed (low_row b) (lows b)) i (up_row b i) (there (up_row b) (ups b) i l)))

low_there : (b : Bilevel) (bounds end i : ℕ) → i < lows b → row_here b bounds end (1 + ups b + i) (low_row b i)
low_there b bounds end i l =
    moved b bounds end (suc (ups b + i)) (1 + ups b + i) (low_row b i) (omega arith)
    (get_first (listed (up_row b) (ups b) ++ listed (low_row b) (lows b)) (listed (follow_row b) b.ny) (ups b + i) (low_row b i)
    (get_second (listed (up_row b) (ups b)) (listed (low_row b) (lows b)) (ups b) i (Some (low_row b i)) (sized (up_row b) (ups b)) (there (low_row b) (lows b) i l)))

two_sized : (b : Bilevel) → length (listed (up_row b) (ups b) ++ listed (low_row b) (lows b)) ≡ ups b + lows b
two_sized b = length-append (listed (up_row b) (ups b)) (listed (low_row b) (lows b)) ∙ ap (λ n. n + length (listed (low_row b) (lows b))) (sized (up_row b) (ups b)) ∙ ap (λ n. ups b + n) (sized (low_row b) (lows b))

follow_there : (b : Bilevel) (bounds end k : ℕ) → k < b.ny → row_here b bounds end (1 + ups b + lows b + k) (follow_row b k)
follow_there b bounds end k l =
    moved b bounds end (suc (ups b + lows b + k)) (1 + ups b + lows b + k) (follow_row b k) (omega arith)
    (get_second (listed (up_row b) (ups b) ++ listed (low_row b) (lows b)) (listed (follow_row b) b.ny) (ups b + lows b) k (Some (follow_row b k)) (two_sized b) (there (follow_row b) b.ny k l))

-- each row other than the objective is one of the three kinds
by_kind : (b : Bilevel) (bounds end : ℕ) (P : ℕ → rows.Row → Type 0)
    → ((i : ℕ) → i < ups b → P (1 + i) (up_row b i)) → ((i : ℕ) → i < lows b → P (1 + ups b + i) (low_row b i)) → ((k : ℕ) → k < b.ny → P (1 + ups b + lows b + k) (follow_row b k))
    → (k : ℕ) (r : rows.Row) → row_here b bounds end k r → (k ≡ 0 → ⊥) → P k r
by_kind b bounds end P u l f zero r e ne = absurd (ne refl)
by_kind b bounds end P u l f (suc k) r e ne = elim (get_split (listed (up_row b) (ups b) ++ listed (low_row b) (lows b)) (listed (follow_row b) b.ny) (ups b + lows b) k r (two_sized b) e) [
  | inl lines ↦ elim (get_split (listed (up_row b) (ups b)) (listed (low_row b) (lows b)) (ups b) k r (sized (up_row b) (ups b)) lines) [
    | inl up ↦ let is = found (up_row b) (ups b) k r up in subst (P (suc k)) is.1 (subst (λ m. P m (up_row b k)) (let z : 1 + k ≡ suc k = omega arith in z) (u k is.0))
    | inr low ↦
        let is = found (low_row b) (lows b) low.0 r low.2 in
        subst (P (suc k)) is.1 (subst (λ m. P m (low_row b low.0)) (let z : 1 + ups b + low.0 ≡ suc k = omega (arith, low.1) in z) (l low.0 is.0))
  ]
  | inr last ↦
      let is = found (follow_row b) b.ny last.0 r last.2 in
      subst (P (suc k)) is.1 (subst (λ m. P m (follow_row b last.0)) (let z : 1 + ups b + lows b + last.0 ≡ suc k = omega (arith, last.1) in z) (f last.0 is.0))
]

-- ---- what each row asks

abbrev IsMetRow : (b : Bilevel) (bounds end : ℕ) → DeckPoint b bounds end → ℕ → rows.Row → Type 0
IsMetRow b bounds end p k r = IsWithin (sides r.letter r.rhs r.range).lower (sides r.letter r.rhs r.range).upper (row_value (bilevel_deck b bounds end) k p)

sum_at : (b : Bilevel) (bounds end : ℕ) (p : DeckPoint b bounds end) (k : ℕ) (w : ℤ) → in_row k p.x (bilevel_deck b bounds end).entries ≡ w → IsSum w p.d (row_value (bilevel_deck b bounds end) k p)
sum_at b bounds end p k w e = subst (λ z. IsSum z p.d (row_value (bilevel_deck b bounds end) k p)) e (row_sum (bilevel_deck b bounds end) k p (all_whole b bounds end))

up_iff : (b : Bilevel) (bounds end : ℕ) (p : DeckPoint b bounds end) (i : ℕ) → IsBilevel b → i < ups b → IsMetRow b bounds end p (1 + i) (up_row b i) ↔ MeetsLine p (line_at b.up i)
up_iff b bounds end p i h l =
    let line = line_at b.up i in
    let least = least_row line.rhs (left_side line.terms p.x) p.d (row_value (bilevel_deck b bounds end) (1 + i) p) p.positive (sum_at b bounds end p (1 + i) (left_side line.terms p.x) (up_sum b bounds end p.x i h l)) in
    (λ k. least.0 k.above, λ k. record { above = least.1 k; below = tt })

low_iff : (b : Bilevel) (bounds end : ℕ) (p : DeckPoint b bounds end) (i : ℕ) → IsBilevel b → i < lows b → IsMetRow b bounds end p (1 + ups b + i) (low_row b i) ↔ MeetsLine p (line_at b.low i)
low_iff b bounds end p i h l =
    let line = line_at b.low i in
    let least = least_row line.rhs (left_side line.terms p.x) p.d (row_value (bilevel_deck b bounds end) (1 + ups b + i) p) p.positive (sum_at b bounds end p (1 + ups b + i) (left_side line.terms p.x) (low_sum b bounds end p.x i h l)) in
    (λ k. least.0 k.above, λ k. record { above = least.1 k; below = tt })

tight_iff : (b : Bilevel) (bounds end : ℕ) (p : DeckPoint b bounds end) (i : ℕ) → IsBilevel b → i < lows b → SameValue (row_value (bilevel_deck b bounds end) (1 + ups b + i) p) (low_row b i).rhs ↔ IsTightLine p (line_at b.low i)
tight_iff b bounds end p i h l =
    let line = line_at b.low i in
    same_row line.rhs (left_side line.terms p.x) p.d (row_value (bilevel_deck b bounds end) (1 + ups b + i) p) p.positive (sum_at b bounds end p (1 + ups b + i) (left_side line.terms p.x) (low_sum b bounds end p.x i h l))

follow_iff : (b : Bilevel) (bounds end : ℕ) (p : DeckPoint b bounds end) (k : ℕ) → k < b.ny → IsMetRow b bounds end p (1 + ups b + lows b + k) (follow_row b k) ↔ (weighed b p k ≡ (number_at b.follow k *ℤ pos p.d))
follow_iff b bounds end p k l =
    let c = number_at b.follow k in
    let w = weighed b p k in
    let f = row_value (bilevel_deck b bounds end) (1 + ups b + lows b + k) p in
    let sum = sum_at b bounds end p (1 + ups b + lows b + k) w (follow_sum b bounds end p k l) in
    let least = least_row c w p.d f p.positive sum in
    let most = most_row c w p.d f p.positive sum in
    (λ h. between (c *ℤ pos p.d) w (least.0 h.above) (most.0 h.below), λ h. record { above = least.1 (omega (arith, ints, h)); below = most.1 (omega (arith, ints, h)) })
  where
    between : (u w : ℤ) → u ≤ℤ w → w ≤ℤ u → w ≡ u
    between u w h k = omega (arith, ints, h, k)

-- ---- the columns, and the pairs

abbrev Columns : Bilevel → ℕ → List Column
Columns b bounds = listed (λ j. free_column (bounds + j)) (b.nx + b.ny) ++ listed (λ i. default_column) (lows b)

multiplier_there : (b : Bilevel) (bounds i : ℕ) → i < lows b → slice_get (Columns b bounds) (b.nx + b.ny + i) ≡ Some default_column
multiplier_there b bounds i l =
    get_second (listed (λ j. free_column (bounds + j)) (b.nx + b.ny)) (listed (λ m. default_column) (lows b)) (b.nx + b.ny) i (Some default_column) (sized (λ j. free_column (bounds + j)) (b.nx + b.ny))
    (there (λ m. default_column) (lows b) i l)

columns_met : (b : Bilevel) (bounds end : ℕ) (p : DeckPoint b bounds end) → ((i : ℕ) → i < lows b → pos 0 ≤ℤ multiplier_at b p i) → (j : ℕ) (c : Column) → slice_get (Columns b bounds) j ≡ Some c
    → IsWithin c.lower.value c.upper.value (column_value p j)
columns_met b bounds end p h j c e = elim (get_split (listed (λ m. free_column (bounds + m)) (b.nx + b.ny)) (listed (λ m. default_column) (lows b)) (b.nx + b.ny) j c (sized (λ m. free_column (bounds + m)) (b.nx + b.ny)) e) [
  | inl free ↦ subst (λ (x : Column). IsWithin x.lower.value x.upper.value (column_value p j)) (found (λ m. free_column (bounds + m)) (b.nx + b.ny) j c free).1 (record { above = tt; below = tt })
  | inr multiplier ↦
      let is = found (λ m. default_column) (lows b) multiplier.0 c multiplier.2 in
      subst (λ (x : Column). IsWithin x.lower.value x.upper.value (column_value p j)) is.1
      (subst (λ m. IsWithin default_column.lower.value default_column.upper.value (column_value p m)) (sym multiplier.1) ((column_from_zero p (b.nx + b.ny + multiplier.0)).1 (h multiplier.0 is.0)))
]

abbrev ZeroAt : (b : Bilevel) (bounds end : ℕ) → DeckPoint b bounds end → PairLine → Type 0
ZeroAt b bounds end p q = IsZeroAt (bilevel_deck b bounds end) p q.a ⊎ IsZeroAt (bilevel_deck b bounds end) p q.b

zero_iff : (b : Bilevel) (bounds end : ℕ) (p : DeckPoint b bounds end) (i : ℕ) → IsBilevel b → i < lows b → ZeroAt b bounds end p (bilevel_pair b i) ↔ (IsTightLine p (line_at b.low i) ⊎ (multiplier_at b p i ≡ pos 0))
zero_iff b bounds end p i h l = (to, from)
  where
    to : ZeroAt b bounds end p (bilevel_pair b i) → IsTightLine p (line_at b.low i) ⊎ (multiplier_at b p i ≡ pos 0)
    to (inl tight) = inl ((tight_iff b bounds end p i h l).0 (tight (low_row b i) (low_there b bounds end i l)))
    to (inr zero_there) = inr zero_there

    from : IsTightLine p (line_at b.low i) ⊎ (multiplier_at b p i ≡ pos 0) → ZeroAt b bounds end p (bilevel_pair b i)
    from (inl tight) = inl (λ r e.
        let same : low_row b i ≡ r = same_Some (low_row b i) r (sym (low_there b bounds end i l) ∙ e) in
        subst (λ (x : rows.Row). SameValue (row_value (bilevel_deck b bounds end) (1 + ups b + i) p) x.rhs) same ((tight_iff b bounds end p i h l).1 tight))
    from (inr zero_there) = inr zero_there

-- ---- the law

pub met_has_multipliers : (b : Bilevel) (bounds end : ℕ) (p : DeckPoint b bounds end) → IsBilevel b → MeetsDeck (bilevel_deck b bounds end) p → IsWithMultipliers b p
met_has_multipliers b bounds end p h m = record {
  up = λ i l. (up_iff b bounds end p i h l).0 (m.rows (1 + i) (up_row b i) (up_there b bounds end i l) (λ e. omega (arith, e)));
  low = λ i l. (low_iff b bounds end p i h l).0 (m.rows (1 + ups b + i) (low_row b i) (low_there b bounds end i l) (λ e. omega (arith, e)));
  multipliers = record {
    nonnegative = λ i l. (column_from_zero p (b.nx + b.ny + i)).0 (m.columns (b.nx + b.ny + i) default_column (multiplier_there b bounds i l));
    sums = λ k l. (follow_iff b bounds end p k l).0 (m.rows (1 + ups b + lows b + k) (follow_row b k) (follow_there b bounds end k l) (λ e. omega (arith, e)));
    tight = λ i l. (zero_iff b bounds end p i h l).0 (at_listed (ZeroAt b bounds end p) (bilevel_pair b) (lows b) i l m.pairs);
  };
}

pub with_multipliers_is_met : (b : Bilevel) (bounds end : ℕ) (p : DeckPoint b bounds end) → IsBilevel b → IsWithMultipliers b p → MeetsDeck (bilevel_deck b bounds end) p
with_multipliers_is_met b bounds end p h m = record {
  rows = by_kind b bounds end (IsMetRow b bounds end p) (λ i l. (up_iff b bounds end p i h l).1 (m.up i l)) (λ i l. (low_iff b bounds end p i h l).1 (m.low i l)) (λ k l. (follow_iff b bounds end p k l).1 (m.multipliers.sums k l));
  columns = columns_met b bounds end p m.multipliers.nonnegative;
  pairs = all_listed (ZeroAt b bounds end p) (bilevel_pair b) (lows b) (λ i l. (zero_iff b bounds end p i h l).1 (m.multipliers.tight i l));
  groups = All-nil (λ g. IsOneOffAt (bilevel_deck b bounds end) p g.items);
}
