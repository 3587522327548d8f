-- A deck of whole numbers that fit a case has one.
use Rattle.std.proofs.Common.{◌≡◌, ℕ, zero, suc, ◌+◌, ◌<◌, ◌≤◌, Bool, true, false, cond, eqb, filter, ltb, List, [], ◌∷◌, ◌++◌, length, map, refl, sym, ap, ◌∙◌, arith, ℤ, pos, negsuc, neg_ℤ, ◌*ℤ◌, ◌≤ℤ◌, None}
use Rattle.std.specs.Prelude.{All, unsigned_abs}
use Rattle.std.specs.List.{enumerate_from, flat_map, list_any}
use Rattle.std.proofs.lemmas.Bool.{le-ltb, or_from}
use Rattle.std.proofs.lemmas.Int.{ints}
use Rattle.std.proofs.lemmas.List.{append-nil, length-append}
use Rattle.std.proofs.lemmas.List.Elements.{All-head, All-tail}
use Rattle.lp_base.specs.declared.limits.TheConstants.{LARGEST_OF_CASE}
use Rattle.lp_nums.specs.Fractions.{Fraction}
use Rattle.decks.specs.Bounds.{default_column}
use Rattle.decks.specs.Decks.{entries_of}
use Rattle.decks.specs.declared.deck.Column.{Column}
use Rattle.decks.specs.declared.deck.Entry.{Entry}
use Rattle.decks.specs.declared.deck.Letter.{Letter}
use Rattle.decks.specs.declared.deck.Letter.TheVariants.{N, E, L, G}
use Rattle.decks.specs.declared.deck.Row as rows
use Rattle.deck_case.specs.CaseParts.{coefficients, constraints_of_column, constraints_of_columns, constraints_of_row, constraints_of_rows, cost_terms, is_nonzero, numbers_of, offset_of, row_multiplier, scale_of, terms_of}
use Rattle.deck_case.specs.DeckVerdicts.{whole}
use Rattle.deck_case.specs.Multipliers.{clears, first_from, multiplier, product_of_dens, times}
use Rattle.deck_case.specs.Wide.{has_wide, is_wide, judged_numbers, wide_column, wide_row, wide_rows}
use Rattle.deck_case.proofs.Wholes.{times_is}
use Rattle.front_text.specs.Problems.{Fits}
use Rattle.kkt_front.specs.Decks.{free_column, row}
use Rattle.front_case.proofs.Numbers.{small}
use Rattle.front_case.proofs.Keeping.{IsGood}

-- ---- the multiplier is 1

abbrev AreOnes : List Fraction → Type 0
AreOnes [] = Unit {0}
AreOnes (f ∷ fs) = (f.den ≡ pos 1) × AreOnes fs

clears_one : (fs : List Fraction) → AreOnes fs → clears fs 1 ≡ true
clears_one [] h = refl
clears_one (f ∷ fs) h = ap (λ (d : ℤ). clears (record { num = f.num; den = d } ∷ fs) 1) h.0 ∙ clears_one fs h.1

first_one : (test : ℕ → Bool) (count : ℕ) → test 1 ≡ true → first_from test count 1 ≡ 1
first_one test zero e = refl
first_one test (suc count) e = ap (λ (b : Bool). cond b 1 (first_from test count 2)) e

multiplier_one : (fs : List Fraction) → AreOnes fs → multiplier fs ≡ 1
multiplier_one fs h = first_one (clears fs) (product_of_dens fs) (clears_one fs h)

-- whole numbers that fit a case
abbrev AreNarrow : List Entry → Type 0
AreNarrow [] = Unit {0}
AreNarrow (e ∷ es) = (e.value.den ≡ pos 1) × Fits e.value.num × AreNarrow es

ones : (es : List Entry) → AreNarrow es → AreOnes (map (λ e. e.value) es)
ones [] h = tt
ones (e ∷ es) h = (h.0, ones es h.2)

abbrev numbers : ℤ → List Entry → List Fraction
numbers b es = numbers_of (whole b) None es

row_one : (b : ℤ) (es : List Entry) → AreNarrow es → multiplier (numbers b es) ≡ 1
row_one b es h = multiplier_one (numbers b es) (refl, ones es h)

times_one : (f : Fraction) → f.den ≡ pos 1 → times 1 f ≡ f.num
times_one f e = times_is 1 f f.num (omega (arith, ints, e)) (ap (λ d. f.num *ℤ d) e)

-- ---- nothing is wide

not_wide : (z : ℤ) → Fits z → is_wide z ≡ false
not_wide z f = le-ltb LARGEST_OF_CASE (unsigned_abs z) (small z f)

negated_fits : (z : ℤ) → Fits z → Fits (neg_ℤ z)
negated_fits (pos zero) f = f
negated_fits (pos (suc n)) f = f
negated_fits (negsuc n) f = f

term_step : (b : Bool) (e : Entry) (es : List Entry) → (e.value.den ≡ pos 1) → Fits e.value.num → has_wide (coefficients (map (λ (x : Entry). (x.column, times 1 x.value)) es)) ≡ false → has_wide (coefficients (map (λ (x : Entry). (x.column, times 1 x.value)) (cond b (e ∷ es) es))) ≡ false
term_step true e es one f rest = or_from (is_wide (times 1 e.value)) (has_wide (coefficients (map (λ (x : Entry). (x.column, times 1 x.value)) es))) (ap is_wide (times_one e.value one) ∙ not_wide e.value.num f) rest
term_step false e es one f rest = rest

terms_narrow : (es : List Entry) → AreNarrow es → has_wide (coefficients (terms_of 1 es)) ≡ false
terms_narrow [] h = refl
terms_narrow (e ∷ es) h = term_step (is_nonzero e) e (filter is_nonzero es) h.0 h.1 (terms_narrow es h.2)

-- a number, and terms
line_narrow : (b : ℤ) (es : List Entry) → Fits b → AreNarrow es → has_wide (times 1 (whole b) ∷ coefficients (terms_of 1 es)) ≡ false
line_narrow b es f h = or_from (is_wide (times 1 (whole b))) (has_wide (coefficients (terms_of 1 es))) (ap is_wide (times_one (whole b) refl) ∙ not_wide b f) (terms_narrow es h)

abbrev IsPlain : Letter → Type 0
IsPlain L = ⊥
IsPlain letter = Unit {0}

row_narrow : (letter : Letter) (line : ℕ) (b : ℤ) (es : List Entry) → IsPlain letter → Fits b → AreNarrow es → has_wide (judged_numbers letter es (row letter line b)) ≡ false
row_narrow N line b es plain f h =
    ap (λ m. has_wide (pos m ∷ neg_ℤ (times m (whole b)) ∷ coefficients (terms_of m es))) (row_one b es h)
    ∙ or_from (is_wide (neg_ℤ (times 1 (whole b)))) (has_wide (coefficients (terms_of 1 es))) (ap (λ z. is_wide (neg_ℤ z)) (times_one (whole b) refl) ∙ not_wide (neg_ℤ b) (negated_fits b f)) (terms_narrow es h)
row_narrow E line b es plain f h =
    ap (λ m. has_wide (pos m ∷ (times m (whole b) ∷ coefficients (terms_of m es)) ++ [])) (row_one b es h)
    ∙ ap has_wide (append-nil (times 1 (whole b) ∷ coefficients (terms_of 1 es))) ∙ line_narrow b es f h
row_narrow G line b es plain f h =
    ap (λ m. has_wide (pos m ∷ (times m (whole b) ∷ coefficients (terms_of m es)) ++ [])) (row_one b es h)
    ∙ ap has_wide (append-nil (times 1 (whole b) ∷ coefficients (terms_of 1 es))) ∙ line_narrow b es f h
row_narrow L line b es plain f h = absurd plain

-- a row with nothing wide, whatever its entries
abbrev pub IsNarrowRow : rows.Row → Type 0
IsNarrowRow r = (es : List Entry) → AreNarrow es → wide_row es r ≡ []

pub narrow_row : (letter : Letter) (line : ℕ) (b : ℤ) → IsPlain letter → Fits b → IsNarrowRow (row letter line b)
narrow_row letter line b plain f es h = ap (λ (w : Bool). cond w (line ∷ []) []) (row_narrow letter line b es plain f h)

narrow_step : (b : Bool) (e : Entry) (es : List Entry) → (e.value.den ≡ pos 1) → Fits e.value.num → AreNarrow es → AreNarrow (cond b (e ∷ es) es)
narrow_step true e es one f h = (one, f, h)
narrow_step false e es one f h = h

narrow_entries : (c r : ℕ) (es : List Entry) (k : ℕ) → All (IsGood c r) es → AreNarrow (entries_of es k)
narrow_entries c r [] k h = tt
narrow_entries c r (e ∷ es) k h =
    let first = All-head (IsGood c r) e es h in
    narrow_step (eqb e.row k) e (entries_of es k) first.is_whole first.fits (narrow_entries c r es k (All-tail (IsGood c r) e es h))

pub no_wide_rows : (c r : ℕ) (es : List Entry) (n : ℕ) (rs : List rows.Row) → All (IsGood c r) es → All IsNarrowRow rs → wide_rows es (enumerate_from n rs) ≡ []
no_wide_rows c r es n [] good all = refl
no_wide_rows c r es n (x ∷ rs) good all =
    ap (λ l. l ++ wide_rows es (enumerate_from (n + 1) rs)) (All-head IsNarrowRow x rs all (entries_of es n) (narrow_entries c r es n good)) ∙ no_wide_rows c r es (n + 1) rs good (All-tail IsNarrowRow x rs all)

pub no_wide_columns : (cs : List Column) → All (λ c. wide_column c ≡ []) cs → flat_map wide_column cs ≡ []
no_wide_columns [] all = refl
no_wide_columns (c ∷ cs) all = ap (λ l. l ++ flat_map wide_column cs) (All-head (λ (x : Column). wide_column x ≡ []) c cs all) ∙ no_wide_columns cs (All-tail (λ (x : Column). wide_column x ≡ []) c cs all)

-- ---- the objective is not scaled, and has no constant

pub scale_one : (c r : ℕ) (es : List Entry) → All (IsGood c r) es → scale_of (entries_of es 0) (row N 3 (pos 0)) ≡ 1
scale_one c r es all = row_one (pos 0) (entries_of es 0) (narrow_entries c r es 0 all)

pub offset_zero : (c r : ℕ) (es : List Entry) → All (IsGood c r) es → offset_of (entries_of es 0) (row N 3 (pos 0)) ≡ pos 0
offset_zero c r es all = ap (λ m. neg_ℤ (times m (whole (pos 0)))) (scale_one c r es all) ∙ ap neg_ℤ (times_one (whole (pos 0)) refl)

-- ---- how many constraints there are

abbrev pub IsOneRow : rows.Row → Type 0
IsOneRow r = (es : List Entry) → length (constraints_of_row es r) ≡ 1

pub one_g : (line : ℕ) (b : ℤ) → IsOneRow (row G line b)
one_g line b es = refl

pub one_e : (line : ℕ) (b : ℤ) → IsOneRow (row E line b)
one_e line b es = refl

pub rows_counted : (es : List Entry) (n : ℕ) (rs : List rows.Row) → All IsOneRow rs → length (constraints_of_rows es (enumerate_from n rs)) ≡ length rs
rows_counted es n [] all = refl
rows_counted es n (r ∷ rs) all =
    omega (arith, length-append (constraints_of_row (entries_of es n) r) (constraints_of_rows es (enumerate_from (n + 1) rs)), All-head IsOneRow r rs all (entries_of es n), rows_counted es (n + 1) rs (All-tail IsOneRow r rs all))

-- with so many constraints for each
abbrev pub HasSoMany : ℕ → Column → Type 0
HasSoMany k c = (j : ℕ) → length (constraints_of_column j c) ≡ k

pub one_default : HasSoMany 1 default_column
one_default j = refl

pub none_free : (line : ℕ) → HasSoMany 0 (free_column line)
none_free line j = refl

pub ones_counted : (n : ℕ) (cs : List Column) → All (HasSoMany 1) cs → length (constraints_of_columns (enumerate_from n cs)) ≡ length cs
ones_counted n [] all = refl
ones_counted n (c ∷ cs) all =
    omega (arith, length-append (constraints_of_column n c) (constraints_of_columns (enumerate_from (n + 1) cs)), All-head (HasSoMany 1) c cs all n, ones_counted (n + 1) cs (All-tail (HasSoMany 1) c cs all))

pub none_counted : (n : ℕ) (cs ds : List Column) → All (HasSoMany 0) cs → All (HasSoMany 1) ds → length (constraints_of_columns (enumerate_from n (cs ++ ds))) ≡ length ds
none_counted n [] ds none all = ones_counted n ds all
none_counted n (c ∷ cs) ds none all =
    omega (arith, length-append (constraints_of_column n c) (constraints_of_columns (enumerate_from (n + 1) (cs ++ ds))), All-head (HasSoMany 0) c cs none n, none_counted (n + 1) cs ds (All-tail (HasSoMany 0) c cs none) all)
