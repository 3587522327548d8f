-- What loops over lists keep.
use Rattle.std.proofs.Common.{◌≡◌, ℕ, ℤ, pos, ◌+◌, ◌^◌, ◌<◌, ◌≤◌, Bool, true, ◌&&◌, cond, leb, List, [], ◌∷◌, ◌++◌, length, map, drop, get_or, refl, sym, ap, ◌∙◌, arith, inl, inr}
use Rattle.std.specs.Prelude.{count_by, min, unsigned_abs}
use Rattle.std.specs.List.{list_all, range_with_len}
use Rattle.std.proofs.lemmas.Bool.{true_from_ne_false, false≢true, and_from, and_parts, eq-eqb, ne_eqb, cases_lt, le-leb, lt-leb, leb-true}
use Rattle.std.proofs.lemmas.Int.{clamps}
use Rattle.std.proofs.lemmas.List.{drop_more, drop_all}
use Rattle.std.proofs.lemmas.List.FromFn.{map-range_with_len_more}
use Rattle.std.proofs.lemmas.List.Folds.{list_all_at, list_all-append}
use Rattle.front_text.specs.Problems.{Terms, coefficient_at, fits, number_of_followers, number_of_terms}
use Rattle.front_text.specs.Reading.{Bounded, fit_all, is_judged, names_all}
use Rattle.front_text.specs.Steps.{terms_in}

-- each element passes a test that all pass
pub passes : {X : Type 0} (p : X → Bool) (xs : List X) (i : ℕ) (d : X) → i < length xs → list_all p xs ≡ true → p (get_or xs i d) ≡ true
passes p xs i d h all = true_from_ne_false (p (get_or xs i d)) (λ no. false≢true (sym (list_all_at p xs i d h no) ∙ all))

pub passes_push : {X : Type 0} (p : X → Bool) (xs now : List X) (x : X) → now ≡ xs ++ x ∷ [] → list_all p xs ≡ true → p x ≡ true → list_all p now ≡ true
passes_push p xs now x e all this = ap (list_all p) e ∙ list_all-append p xs (x ∷ []) ∙ and_from (list_all p xs) (list_all p (x ∷ [])) all (and_from (p x) true this refl)

-- ---- what was read of lines

pub judged_item : (count : ℕ) (lines : List Bounded) (i : ℕ) (x : Bounded) → i < length lines → list_all (is_judged count) lines ≡ true → x ≡ get_or lines i x
    → (names_all count x.1 ≡ true) × (fits x.0 ≡ true) × (fit_all x.1 ≡ true)
judged_item count lines i x h all e =
    let p = and_parts (names_all count x.1) (fits x.0 && fit_all x.1) (ap (is_judged count) e ∙ passes (is_judged count) lines i x h all) in
    let q = and_parts (fits x.0) (fit_all x.1) p.1 in
    (p.0, q.0, q.1)

-- ---- coefficients

pub fits_narrow : (z : ℤ) → fits z ≡ true → unsigned_abs z < 2 ^ 63
fits_narrow z e = omega (arith, leb-true (unsigned_abs z) (2 ^ 52) e)

pub coefficients_more : (ts : Terms) (first i : ℕ) (made now : List ℤ) (v : ℤ) → made ≡ map (coefficient_at ts) (range_with_len first i) → v ≡ coefficient_at ts (first + i) → now ≡ made ++ v ∷ [] → now ≡ map (coefficient_at ts) (range_with_len first (i + 1))
coefficients_more ts first i made now v so_far e m =
    m ∙ ap (λ (xs : List ℤ). xs ++ v ∷ []) so_far ∙ ap (λ (z : ℤ). map (coefficient_at ts) (range_with_len first i) ++ z ∷ []) e ∙ sym (map-range_with_len_more (coefficient_at ts) first i (first + i) refl)

pub coefficient_found : (ts : Terms) (i j : ℕ) (d : ℕ × ℤ) → i < length ts → (get_or ts i d).0 ≡ j → coefficient_at (drop i ts) j ≡ coefficient_at ts j → (get_or ts i d).1 ≡ coefficient_at ts j
coefficient_found ts i j d h e so_far =
    let t = get_or ts i d in
    sym (ap (λ (b : Bool). cond b t.1 (coefficient_at (drop (i + 1) ts) j)) (eq-eqb t.0 j e)) ∙ sym (ap (λ (us : Terms). coefficient_at us j) (drop_more ts i d h)) ∙ so_far

pub coefficient_goes_on : (ts : Terms) (i j : ℕ) (d : ℕ × ℤ) → i < length ts → ((get_or ts i d).0 ≡ j → ⊥) → coefficient_at (drop i ts) j ≡ coefficient_at ts j → coefficient_at (drop (i + 1) ts) j ≡ coefficient_at ts j
coefficient_goes_on ts i j d h e so_far =
    let t = get_or ts i d in
    sym (ap (λ (b : Bool). cond b t.1 (coefficient_at (drop (i + 1) ts) j)) (ne_eqb t.0 j e)) ∙ sym (ap (λ (us : Terms). coefficient_at us j) (drop_more ts i d h)) ∙ so_far

pub coefficient_none : (ts : Terms) (i j : ℕ) → length ts ≤ i → coefficient_at (drop i ts) j ≡ coefficient_at ts j → pos 0 ≡ coefficient_at ts j
coefficient_none ts i j h so_far = sym (ap (λ (us : Terms). coefficient_at us j) (drop_all i ts h)) ∙ so_far

-- ---- counts, of which those past a million are counted as a million

abbrev pub counted : ℕ → ℕ
counted n = min 1000000 n

pub sum_step : (n a rest : ℕ) → counted (counted (n + a) + rest) ≡ counted (n + (a + rest))
sum_step n a rest = omega (arith, clamps)

pub terms_step : (lines : List Bounded) (n i a m all : ℕ) (d : Bounded) → i < length lines → a ≡ length (get_or lines i d).1 → m ≡ counted (n + a)
    → counted (n + number_of_terms (terms_in (drop i lines))) ≡ all → counted (m + number_of_terms (terms_in (drop (i + 1) lines))) ≡ all
terms_step lines n i a m all d h e f so_far =
    ap (λ (k : ℕ). counted (k + number_of_terms (terms_in (drop (i + 1) lines)))) f ∙ sum_step n a (number_of_terms (terms_in (drop (i + 1) lines)))
    ∙ ap (λ (k : ℕ). counted (n + (k + number_of_terms (terms_in (drop (i + 1) lines))))) e
    ∙ sym (ap (λ (xs : List Bounded). counted (n + number_of_terms (terms_in xs))) (drop_more lines i d h)) ∙ so_far

pub terms_end : (lines : List Bounded) (n i : ℕ) → length lines ≤ i → n ≤ 1000000 → counted (n + number_of_terms (terms_in (drop i lines))) ≡ counted (number_of_terms (terms_in lines)) → n ≡ counted (number_of_terms (terms_in lines))
terms_end lines n i h small so_far =
    (let e : n ≡ counted (n + 0) = omega (arith, clamps, small) in e) ∙ sym (ap (λ (xs : List Bounded). counted (n + number_of_terms (terms_in xs))) (drop_all i lines h)) ∙ so_far

pub followers_step : (nx : ℕ) (lines : List Bounded) (n i a m all : ℕ) (d : Bounded) → i < length lines → a ≡ count_by (λ t. leb nx t.0) (get_or lines i d).1 → m ≡ counted (n + a)
    → counted (n + number_of_followers nx (terms_in (drop i lines))) ≡ all → counted (m + number_of_followers nx (terms_in (drop (i + 1) lines))) ≡ all
followers_step nx lines n i a m all d h e f so_far =
    ap (λ (k : ℕ). counted (k + number_of_followers nx (terms_in (drop (i + 1) lines)))) f ∙ sum_step n a (number_of_followers nx (terms_in (drop (i + 1) lines)))
    ∙ ap (λ (k : ℕ). counted (n + (k + number_of_followers nx (terms_in (drop (i + 1) lines))))) e
    ∙ sym (ap (λ (xs : List Bounded). counted (n + number_of_followers nx (terms_in xs))) (drop_more lines i d h)) ∙ so_far

pub followers_end : (nx : ℕ) (lines : List Bounded) (n i : ℕ) → length lines ≤ i → n ≤ 1000000 → counted (n + number_of_followers nx (terms_in (drop i lines))) ≡ counted (number_of_followers nx (terms_in lines)) → n ≡ counted (number_of_followers nx (terms_in lines))
followers_end nx lines n i h small so_far =
    (let e : n ≡ counted (n + 0) = omega (arith, clamps, small) in e) ∙ sym (ap (λ (xs : List Bounded). counted (n + number_of_followers nx (terms_in xs))) (drop_all i lines h)) ∙ so_far

-- two counts that keep the same limit
pub same_limit : (a b most : ℕ) → (a ≤ most → b ≤ most) → (b ≤ most → a ≤ most) → leb a most ≡ leb b most
same_limit a b most to from = elim (cases_lt most a) [
  | inl high ↦ lt-leb a most high ∙ sym (lt-leb b most (elim (cases_lt most b) [ inl over ↦ over | inr under ↦ omega (arith, high, from (omega (arith, under))) ]))
  | inr low ↦ le-leb a most (omega (arith, low)) ∙ sym (le-leb b most (to (omega (arith, low))))
]
