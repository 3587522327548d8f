-- What is spelled is read.
use Rattle.std.proofs.Common.{◌≡◌, ◌≢◌, ℕ, zero, suc, ◌+◌, ◌^◌, ◌<◌, ◌≤◌, Bool, true, false, ◌&&◌, cond, ltb, leb, eqb, List, [], ◌∷◌, ◌++◌, length, get_or, map, Ok, Err, refl, sym, ap, subst, ◌∙◌, inl, inr, arith, lit<, lit≤, ℤ, pos, negsuc}
use Rattle.std.specs.Prelude.{All, IsTrue, bytes_eq, codes, flat_map, unsigned_abs}
use Rattle.std.specs.Fmt.{decimal, signed_decimal}
use Rattle.std.specs.List.{list_all, range_with_len}
use Rattle.std.proofs.lemmas.Bool.{and_from, leb-true, le-leb, lt-ltb, eqb-true, eqb-false, eq-eqb, ne_eqb}
use Rattle.std.proofs.lemmas.List.{append-nil}
use Rattle.std.proofs.lemmas.List.Elements.{All-nil, All-cons, All-head, All-tail, All-append, All-map}
use Rattle.std.proofs.lemmas.Slice.Eq.{bytes_eq-Decides}
use Rattle.lp_base.specs.Ascending.{ascends_by, number_of}
use Rattle.cert_text.specs.Capped.{most}
use Rattle.cert_text.specs.Spelling.{Word, colon, line_bytes, term_words, text_of}
use Rattle.cert_text.proofs.Ascents.{Ascend, ascend_more, ascend_parts}
use Rattle.cert_text.proofs.Joined.{words_joined}
use Rattle.cert_text.proofs.Numbers.{IsPlain, plain_decimal, plain_signed}
use Rattle.cert_text.proofs.Plain.{plain_by_test, plain_colon, plain_terms}
use Rattle.front_text.specs.declared.fault.FrontWhy.TheVariants.{BadLine, NoSuch, Wide, TooMany}
use Rattle.front_text.specs.Problems.{AreTerms, Counts, Fits, Terms, are_few, coefficient_at, coefficients, fits, lcp_counts}
use Rattle.front_text.specs.Spelling.{bounded_words, combination_words, end_words, sparse}
use Rattle.front_text.specs.Reading.{◌>>=◌, Bounded, Reading, after, both_sized, bounded_at, combination_at, end_at, ended, factor_in, first_in, fit_all, has_fitting, is_below, judged, lcp_end_at, names_all, natural_in, number_in, positive_in, row_at, row_number, size_at, sized, sizes_at, terms_from, whole_in}
use Rattle.front_text.proofs.Digits.{factor_spelled, natural_spelled, number_spelled, positive_spelled, whole_spelled}
use Rattle.front_text.proofs.Forms.{IsSmall}
use Rattle.front_text.proofs.Texts.{begin_at, coefficient_below}

-- ---- words

after_again : (wanted : Word) (rest : List Word) → after wanted (wanted ∷ rest) ≡ Ok rest
unfolding after
after_again wanted rest = ap (λ (t : Bool). cond t (Ok rest) (Err BadLine)) ((bytes_eq-Decides wanted wanted).1 refl)

first_again : (word : Word) (rest : List Word) → first_in (word ∷ rest) ≡ Ok (word, rest)
unfolding first_in
first_again word rest = refl

ended_again : ended [] ≡ Ok []
unfolding ended
ended_again = refl

-- ---- terms

abbrev IsNonzero : ℕ × ℤ → Type 0
IsNonzero t = t.1 ≢ pos 0

terms_again : (least : ℕ) (ts : Terms) → All IsSmall ts → All IsNonzero ts → Ascend number_of least ts → terms_from least (flat_map term_words ts) ≡ Ok ts
unfolding terms_from
terms_again least [] s z a = refl
terms_again least (t ∷ ts) s z a =
    let head = All-head IsSmall t ts s in
    let rest = flat_map term_words ts in
    ap (λ (r : Reading ℕ). r >>= λ n. factor_in (signed_decimal t.1) >>= λ y. terms_from (n + 1) rest >>= λ terms. Ok ((n, y) ∷ terms)) (number_spelled least t.0 a.0 head.0)
    ∙ ap (λ (r : Reading ℤ). r >>= λ y. terms_from (t.0 + 1) rest >>= λ terms. Ok ((t.0, y) ∷ terms)) (factor_spelled t.1 (All-head IsNonzero t ts z) head.1)
    ∙ ap (λ (r : Reading Terms). r >>= λ terms. Ok (t ∷ terms)) (terms_again (t.0 + 1) ts (All-tail IsSmall t ts s) (All-tail IsNonzero t ts z) (ascend_parts number_of t ts a.1))

pass_all : (p : ℕ × ℤ → Bool) (ts : Terms) → ((i : ℕ) (d : ℕ × ℤ) → i < length ts → p (get_or ts i d) ≡ true) → list_all p ts ≡ true
pass_all p [] h = refl
pass_all p (t ∷ ts) h = and_from (p t) (list_all p ts) (h 0 t (omega arith)) (pass_all p ts (λ i d l. h (suc i) d (omega (arith, l))))

judged_again : (count : ℕ) (b : ℤ) (ts : Terms) (least : ℕ) → Fits b → AreTerms least count ts → judged count b ts ≡ Ok (b, ts)
unfolding judged
judged_again count b ts least f h =
    let made : Bounded = (b, ts) in
    ap (λ (t : Bool). cond t (cond (fits b && fit_all ts) (Ok made) (Err Wide)) (Err NoSuch)) (pass_all (is_below count) ts (λ i d l. lt-ltb (get_or ts i d).0 count (h.named i d l).1))
    ∙ ap (λ (t : Bool). cond t (Ok made) (Err Wide)) (and_from (fits b) (fit_all ts) f (pass_all has_fitting ts (λ i d l. (h.numbers i d l).0)))

all_terms_again : (least count : ℕ) (ts : Terms) → count ≤ 2 ^ 60 → AreTerms least count ts → terms_from least (flat_map term_words ts) ≡ Ok ts
all_terms_again least count ts few h =
    terms_again least ts (λ i d l. (omega (arith, few, (h.named i d l).1), omega (arith, leb-true (unsigned_abs (get_or ts i d).1) (2 ^ 52) (h.numbers i d l).0))) (λ i d l. (h.numbers i d l).1)
    (begin_at least ts h.ascending (λ i d l. (h.named i d l).0))

-- ---- lines

pub combination_again : (kind : Word) (least count : ℕ) (ts : Terms) → count ≤ 2 ^ 60 → AreTerms least count ts → combination_at kind least count (combination_words kind ts) ≡ Ok ts
unfolding combination_at
combination_again kind least count ts few h =
    ap (λ (r : Reading (List Word)). r >>= λ rest. after colon rest >>= λ terms. terms_from least terms >>= λ us. judged count (pos 0) us >>= λ found. Ok found.1) (after_again kind (colon ∷ flat_map term_words ts))
    ∙ ap (λ (r : Reading (List Word)). r >>= λ terms. terms_from least terms >>= λ us. judged count (pos 0) us >>= λ found. Ok found.1) (after_again colon (flat_map term_words ts))
    ∙ ap (λ (r : Reading Terms). r >>= λ us. judged count (pos 0) us >>= λ found. Ok found.1) (all_terms_again least count ts few h)
    ∙ ap (λ (r : Reading Bounded). r >>= λ found. Ok found.1) (judged_again count (pos 0) ts least refl h)

pub bounded_again : (kind : Word) (count : ℕ) (b : ℤ) (ts : Terms) → count ≤ 2 ^ 60 → Fits b → AreTerms 0 count ts → bounded_at kind count (bounded_words kind (signed_decimal b) ts) ≡ Ok (b, ts)
unfolding bounded_at
bounded_again kind count b ts few f h =
    let rest = flat_map term_words ts in
    ap (λ (r : Reading (List Word)). r >>= λ all. first_in all >>= λ first. whole_in first.0 >>= λ z. after colon first.1 >>= λ terms. terms_from 0 terms >>= λ us. judged count z us) (after_again kind (signed_decimal b ∷ colon ∷ rest))
    ∙ ap (λ (r : Reading (Word × List Word)). r >>= λ first. whole_in first.0 >>= λ z. after colon first.1 >>= λ terms. terms_from 0 terms >>= λ us. judged count z us) (first_again (signed_decimal b) (colon ∷ rest))
    ∙ ap (λ (r : Reading ℤ). r >>= λ z. after colon (colon ∷ rest) >>= λ terms. terms_from 0 terms >>= λ us. judged count z us) (whole_spelled b (omega (arith, leb-true (unsigned_abs b) (2 ^ 52) f)))
    ∙ ap (λ (r : Reading (List Word)). r >>= λ terms. terms_from 0 terms >>= λ us. judged count b us) (after_again colon rest)
    ∙ ap (λ (r : Reading Terms). r >>= λ us. judged count b us) (all_terms_again 0 count ts few h)
    ∙ judged_again count b ts 0 f h

pub row_again : (n k : ℕ) (ts : Terms) → n ≤ 2 ^ 60 → k < n → AreTerms 0 n ts → row_at n k (bounded_words (codes "row") (decimal (k + 1)) ts) ≡ Ok (pos 0, ts)
unfolding row_at
row_again n k ts few l h =
    let rest = flat_map term_words ts in
    ap (λ (r : Reading (List Word)). r >>= λ all. first_in all >>= λ first. natural_in first.0 >>= λ i. row_number n k i >>= λ _. after colon first.1 >>= λ terms. terms_from 0 terms >>= λ us. judged n (pos 0) us) (after_again (codes "row") (decimal (k + 1) ∷ colon ∷ rest))
    ∙ ap (λ (r : Reading (Word × List Word)). r >>= λ first. natural_in first.0 >>= λ i. row_number n k i >>= λ _. after colon first.1 >>= λ terms. terms_from 0 terms >>= λ us. judged n (pos 0) us) (first_again (decimal (k + 1)) (colon ∷ rest))
    ∙ ap (λ (r : Reading ℕ). r >>= λ i. row_number n k i >>= λ _. after colon (colon ∷ rest) >>= λ terms. terms_from 0 terms >>= λ us. judged n (pos 0) us) (natural_spelled (k + 1) (omega (arith, few, l)))
    ∙ ap (λ (r : Reading ℕ). r >>= λ _. after colon (colon ∷ rest) >>= λ terms. terms_from 0 terms >>= λ us. judged n (pos 0) us)
    (ap (λ (t : Bool). cond t (Ok (k + 1)) (Err BadLine)) (and_from (eqb (k + 1) (k + 1)) (ltb k n) (eq-eqb (k + 1) (k + 1) refl) (lt-ltb k n l)))
    ∙ ap (λ (r : Reading (List Word)). r >>= λ terms. terms_from 0 terms >>= λ us. judged n (pos 0) us) (after_again colon rest)
    ∙ ap (λ (r : Reading Terms). r >>= λ us. judged n (pos 0) us) (all_terms_again 0 n ts few h)
    ∙ judged_again n (pos 0) ts 0 refl h

pub size_again : (n : ℕ) → 1 ≤ n → n ≤ 2 ^ 52 → size_at (codes "size" ∷ decimal n ∷ []) ≡ Ok n
unfolding size_at
size_again n some few =
    ap (λ (r : Reading (List Word)). r >>= λ rest. first_in rest >>= λ first. positive_in first.0 >>= λ m. ended first.1 >>= λ _. sized m) (after_again (codes "size") (decimal n ∷ []))
    ∙ ap (λ (r : Reading (Word × List Word)). r >>= λ first. positive_in first.0 >>= λ m. ended first.1 >>= λ _. sized m) (first_again (decimal n) [])
    ∙ ap (λ (r : Reading ℕ). r >>= λ m. ended [] >>= λ _. sized m) (positive_spelled n some (omega (arith, few)))
    ∙ ap (λ (r : Reading (List Word)). r >>= λ _. sized n) ended_again
    ∙ ap (λ (t : Bool). cond t (Ok n) (Err Wide)) (le-leb n (2 ^ 52) few)

pub sizes_again : (nx ny : ℕ) → 1 ≤ nx → 1 ≤ ny → nx ≤ 2 ^ 52 → ny ≤ 2 ^ 52 → sizes_at (codes "sizes" ∷ decimal nx ∷ decimal ny ∷ []) ≡ Ok (nx, ny)
unfolding sizes_at
sizes_again nx ny some_x some_y few_x few_y =
    ap (λ (r : Reading (List Word)). r >>= λ rest. first_in rest >>= λ first. positive_in first.0 >>= λ x. first_in first.1 >>= λ second. positive_in second.0 >>= λ y. ended second.1 >>= λ _. both_sized x y) (after_again (codes "sizes") (decimal nx ∷ decimal ny ∷ []))
    ∙ ap (λ (r : Reading (Word × List Word)). r >>= λ first. positive_in first.0 >>= λ x. first_in first.1 >>= λ second. positive_in second.0 >>= λ y. ended second.1 >>= λ _. both_sized x y) (first_again (decimal nx) (decimal ny ∷ []))
    ∙ ap (λ (r : Reading ℕ). r >>= λ x. first_in (decimal ny ∷ []) >>= λ second. positive_in second.0 >>= λ y. ended second.1 >>= λ _. both_sized x y) (positive_spelled nx some_x (omega (arith, few_x)))
    ∙ ap (λ (r : Reading (Word × List Word)). r >>= λ second. positive_in second.0 >>= λ y. ended second.1 >>= λ _. both_sized nx y) (first_again (decimal ny) [])
    ∙ ap (λ (r : Reading ℕ). r >>= λ y. ended [] >>= λ _. both_sized nx y) (positive_spelled ny some_y (omega (arith, few_y)))
    ∙ ap (λ (r : Reading (List Word)). r >>= λ _. both_sized nx ny) ended_again
    ∙ ap (λ (t : Bool). cond t (Ok (nx, ny)) (Err Wide)) (and_from (leb nx (2 ^ 52)) (leb ny (2 ^ 52)) (le-leb nx (2 ^ 52) few_x) (le-leb ny (2 ^ 52) few_y))

pub end_again : (counts : Counts) → are_few counts ≡ true → end_at counts end_words ≡ Ok []
unfolding end_at
end_again counts few =
    ap (λ (r : Reading (List Word)). r >>= λ rest. ended rest >>= λ _. cond (are_few counts) (Ok []) (Err TooMany)) (after_again (codes "end") [])
    ∙ ap (λ (r : Reading (List Word)). r >>= λ _. cond (are_few counts) (Ok []) (Err TooMany)) ended_again
    ∙ ap (λ (t : Bool). cond t (Ok []) (Err TooMany)) few

pub lcp_end_again : (n : ℕ) (rows : List Terms) → length rows ≡ n → are_few (lcp_counts n rows) ≡ true → lcp_end_at n rows end_words ≡ Ok []
unfolding lcp_end_at
lcp_end_again n rows size few = ap (λ (t : Bool). cond t (end_at (lcp_counts n rows) end_words) (Err BadLine)) (eq-eqb (length rows) n size) ∙ end_again (lcp_counts n rows) few

-- ---- coefficients: the numbers that are not 0 leave all

no_size : (z : ℤ) → eqb (unsigned_abs z) 0 ≡ true → z ≡ pos 0
no_size (pos zero) e = refl
no_size (pos (suc n)) e = absurd (omega (arith, eqb-true (suc n) 0 e))
no_size (negsuc n) e = absurd (omega (arith, eqb-true (suc n) 0 e))

sparse_ascends : (first : ℕ) (vs : List ℤ) → Ascend number_of first (sparse first vs)
sparse_ascends first [] = (tt, refl)
sparse_ascends first (v ∷ vs) = by (eqb (unsigned_abs v) 0) (sparse (first + 1) vs) (sparse_ascends (first + 1) vs)
  where
    later : (ts : Terms) → Ascend number_of (first + 1) ts → Ascend number_of first ts
    later [] h = h
    later (t ∷ ts) h = (omega (arith, h.0), h.1)

    by : (b : Bool) (ts : Terms) → Ascend number_of (first + 1) ts → Ascend number_of first (cond b ts ((first, v) ∷ ts))
    by true ts h = later ts h
    by false ts h = ascend_more number_of first (first, v) ts (omega arith) h

abbrev seen : ℕ → ℤ → Terms → Terms
seen first v ts = cond (eqb (unsigned_abs v) 0) ts ((first, v) ∷ ts)

at_first : (b : Bool) (first : ℕ) (v : ℤ) (ts : Terms) → eqb (unsigned_abs v) 0 ≡ b → Ascend number_of (first + 1) ts → coefficient_at (cond b ts ((first, v) ∷ ts)) first ≡ v
at_first true first v ts e h = coefficient_below ts (first + 1) first h (omega arith) ∙ sym (no_size v e)
at_first false first v ts e h = ap (λ (t : Bool). cond t v (coefficient_at ts first)) (eq-eqb first first refl)

at_other : (b : Bool) (first j : ℕ) (v : ℤ) (ts : Terms) → (first ≡ j → ⊥) → coefficient_at (cond b ts ((first, v) ∷ ts)) j ≡ coefficient_at ts j
at_other true first j v ts ne = refl
at_other false first j v ts ne = ap (λ (t : Bool). cond t v (coefficient_at ts j)) (ne_eqb first j ne)

others : (first : ℕ) (v : ℤ) (ts : Terms) (a n : ℕ) → first < a → map (coefficient_at (seen first v ts)) (range_with_len a n) ≡ map (coefficient_at ts) (range_with_len a n)
others first v ts a zero h = refl
others first v ts a (suc n) h =
    ap (λ (z : ℤ). z ∷ map (coefficient_at (seen first v ts)) (range_with_len (a + 1) n)) (at_other (eqb (unsigned_abs v) 0) first a v ts (λ e. omega (arith, e, h)))
    ∙ ap (λ (zs : List ℤ). coefficient_at ts a ∷ zs) (others first v ts (a + 1) n (omega (arith, h)))

pub dense_again : (first : ℕ) (vs : List ℤ) → coefficients first (length vs) (sparse first vs) ≡ vs
dense_again first [] = refl
dense_again first (v ∷ vs) =
    let rest = sparse (first + 1) vs in
    ap (λ (z : ℤ). z ∷ map (coefficient_at (seen first v rest)) (range_with_len (first + 1) (length vs))) (at_first (eqb (unsigned_abs v) 0) first v rest refl (sparse_ascends (first + 1) vs))
    ∙ ap (λ (zs : List ℤ). v ∷ zs) (others first v rest (first + 1) (length vs) (omega arith) ∙ dense_again (first + 1) vs)

abbrev Facts : ℕ → ℕ → ℕ × ℤ → Type 0
Facts first count t = ((first ≤ t.0) × (t.0 < count)) × (Fits t.1 × (t.1 ≢ pos 0))

sparse_facts : (first count : ℕ) (vs : List ℤ) → first + length vs ≤ count → All Fits vs → All (Facts first count) (sparse first vs)
sparse_facts first count [] few h = All-nil (Facts first count)
sparse_facts first count (v ∷ vs) few h = by (eqb (unsigned_abs v) 0) refl (sparse (first + 1) vs) (sparse_facts (first + 1) count vs (omega (arith, few)) (All-tail Fits v vs h))
  where
    later : (ts : Terms) → All (Facts (first + 1) count) ts → All (Facts first count) ts
    later ts k i d l = let f = k i d l in ((omega (arith, f.0.0), f.0.1), f.1)

    by : (b : Bool) → eqb (unsigned_abs v) 0 ≡ b → (ts : Terms) → All (Facts (first + 1) count) ts → All (Facts first count) (cond b ts ((first, v) ∷ ts))
    by true e ts k = later ts k
    by false e ts k = All-cons (Facts first count) (first, v) ts ((omega arith, omega (arith, few)), (All-head Fits v vs h, λ z. eqb-false (unsigned_abs v) 0 e (ap unsigned_abs z))) (later ts k)

pub sparse_are : (first count : ℕ) (vs : List ℤ) → first + length vs ≤ count → All Fits vs → AreTerms first count (sparse first vs)
sparse_are first count vs few h =
    let f = sparse_facts first count vs few h in
    record { ascending = (sparse_ascends first vs).1; named = λ i d l. (f i d l).0; numbers = λ i d l. (f i d l).1 }
