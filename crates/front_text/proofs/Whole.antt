-- Whole texts: what is spelled is read.
use Rattle.std.proofs.Common.{◌≡◌, ℕ, zero, suc, ◌+◌, ◌^◌, ◌<◌, ◌≤◌, Bool, true, false, ◌&&◌, cond, ltb, leb, eqb, List, [], ◌∷◌, ◌++◌, length, get_or, map, Ok, Err, refl, sym, ap, subst, ◌∙◌, append_assoc, arith, ℤ, pos}
use Rattle.std.specs.Prelude.{All, bytes_eq, codes, flat_map}
use Rattle.std.specs.Fmt.{decimal, signed_decimal}
use Rattle.std.proofs.lemmas.Bool.{and_parts, leb-true}
use Rattle.std.proofs.lemmas.List.{length-map}
use Rattle.std.proofs.lemmas.List.Elements.{All-nil, All-cons, All-head, All-tail, All-append, All-map}
use Rattle.std.proofs.lemmas.Slice.Eq.{bytes_eq-Decides}
use Rattle.lp_base.specs.declared.limits.TheConstants.{MOST_COLUMNS, MOST_CONSTRAINTS, MOST_ENTRIES, MOST_PAIRS, MOST_ROWS}
use Rattle.cert_text.specs.Lines.{tail_among}
use Rattle.cert_text.specs.Spelling.{Word, colon, line_bytes, term_words, text_of}
use Rattle.cert_text.specs.Splits.{split}
use Rattle.cert_text.proofs.Joined.{IsInLine, line_in_line, lines_joined, words_joined}
use Rattle.cert_text.proofs.Numbers.{IsPlain, plain_decimal, plain_signed}
use Rattle.cert_text.proofs.Plain.{plain_by_test, plain_colon, plain_terms}
use Rattle.front_text.specs.declared.problem.Bilevel.{Bilevel}
use Rattle.front_text.specs.declared.problem.Lcp.{Lcp}
use Rattle.front_text.specs.declared.problem.Line.{Line}
use Rattle.front_text.specs.Lines.{is_cut, lines_in, whole_among}
use Rattle.front_text.specs.Problems.{AreTerms, Counts, IsBilevel, IsLcp, IsLine, Terms, are_few, bilevel_counts, coefficients, lcp_counts, terms_of}
use Rattle.front_text.specs.Spelling.{bilevel_words, bounded_words, combination_words, end_words, lcp_words, line_words, rows_words, sparse, spelling}
use Rattle.front_text.specs.Reading.{◌>>=◌, Bounded, Reading, combination_at, end_at, lcp_end_at, row_at, size_at, sizes_at}
use Rattle.front_text.specs.Steps.{Found, Left, all_lines, at, begins, behind_end, bilevel_at, bilevel_costs, bilevel_lines, bilevel_of, bilevel_rest, bounded_in, head_step, lcp_at, lcp_of, line_as, line_of, next_begins, section_from, section_step, terms_in, whole_line, words}
use Rattle.front_text.specs.Texts.{SpellsBilevel, SpellsLcp}
use Rattle.front_text.proofs.Again.{bounded_again, combination_again, dense_again, end_again, lcp_end_again, row_again, size_again, sizes_again, sparse_are}

-- ---- lines of words

abbrev pub ArePlain : List Word → Type 0
ArePlain ws = All IsPlain ws

pub read_line : {X : Type 0} (f : List Word → Reading X) (t : ℕ) (w : Word) (ws : List Word) (ls : List (List ℕ)) (x : X) → ArePlain (w ∷ ws) → f (w ∷ ws) ≡ Ok x
    → line_as f (record { taken = t; lines = line_bytes (w ∷ ws) ∷ ls; cut = false }) ≡ Ok (x, record { taken = t + 1; lines = ls; cut = false })
unfolding line_as whole_line
read_line f t w ws ls x plain e = ap (λ (r : Reading _). at (t + 1) r >>= λ y. Ok (y, record { taken = t + 1; lines = ls; cut = false })) (ap f (words_joined w ws plain) ∙ e)

pub begins_with : (kind w : Word) (ws : List Word) (b : Bool) → ArePlain (w ∷ ws) → bytes_eq w kind ≡ b → begins kind (line_bytes (w ∷ ws)) ≡ b
begins_with kind w ws b plain e = ap (λ (vs : List Word). bytes_eq (get_or vs 0 []) kind) (words_joined w ws plain) ∙ e

-- ---- texts of lines

whole_again : (ls : List (List ℕ)) → (whole_among (ls ++ [] ∷ []) ≡ ls) × (tail_among (ls ++ [] ∷ []) ≡ [])
whole_again [] = (refl, refl)
whole_again (l ∷ []) = (refl, refl)
whole_again (l ∷ k ∷ ls) = let h = whole_again (k ∷ ls) in (ap (λ (x : List (List ℕ)). l ∷ x) h.0, h.1)

all_in_line : (lines : List (List Word)) → All ArePlain lines → All IsInLine (map line_bytes lines)
all_in_line lines h = All-map IsInLine line_bytes lines (λ i d l. line_in_line (get_or lines i d) (h i d l))

pub spelled_lines : (text : List ℕ) (lines : List (List Word)) → All ArePlain lines → text ≡ spelling lines → all_lines text ≡ record { taken = 0; lines = map line_bytes lines; cut = false }
spelled_lines text lines plain e =
    let parts : split 10 text ≡ map line_bytes lines ++ [] ∷ [] = ap (split 10) e ∙ lines_joined (map line_bytes lines) (all_in_line lines plain) in
    let w = whole_again (map line_bytes lines) in
    ap (λ (ps : List (List ℕ)). record { taken = 0; lines = whole_among ps; cut = ltb 0 (length (tail_among ps)) }) parts
    ∙ ap (λ (ls : List (List ℕ)). record { taken = 0; lines = ls; cut = ltb 0 (length (tail_among (map line_bytes lines ++ [] ∷ []))) }) w.0
    ∙ ap (λ (bytes : List ℕ). record { taken = 0; lines = map line_bytes lines; cut = ltb 0 (length bytes) }) w.1

plain_two : (a b : Word) → IsPlain a → IsPlain b → ArePlain (a ∷ b ∷ [])
plain_two a b h k = All-cons IsPlain a (b ∷ []) h (All-cons IsPlain b [] k (All-nil IsPlain))

plain_combination : (kind : Word) (ts : Terms) → IsPlain kind → ArePlain (combination_words kind ts)
plain_combination kind ts h = All-cons IsPlain kind (colon ∷ flat_map term_words ts) h (plain_colon (flat_map term_words ts) (plain_terms ts))

plain_bounded : (kind bound : Word) (ts : Terms) → IsPlain kind → IsPlain bound → ArePlain (bounded_words kind bound ts)
plain_bounded kind bound ts h k =
    All-cons IsPlain kind (bound ∷ colon ∷ flat_map term_words ts) h (All-cons IsPlain bound (colon ∷ flat_map term_words ts) k (plain_colon (flat_map term_words ts) (plain_terms ts)))

plain_end : ArePlain end_words
plain_end = All-cons IsPlain (codes "end") [] (plain_by_test (codes "end") refl) (All-nil IsPlain)

plain_rows : (k : ℕ) (rows : List Terms) → All ArePlain (rows_words k rows)
plain_rows k [] = All-nil ArePlain
plain_rows k (row ∷ rows) = All-cons ArePlain (bounded_words (codes "row") (decimal (k + 1)) row) (rows_words (k + 1) rows) (plain_bounded (codes "row") (decimal (k + 1)) row (plain_by_test (codes "row") refl) (plain_decimal (k + 1))) (plain_rows (k + 1) rows)

plain_lcp : (p : Lcp) → All ArePlain (lcp_words p)
plain_lcp p =
    let rest = rows_words 0 p.rows ++ end_words ∷ [] in
    let q = combination_words (codes "q") (sparse 0 p.q) in
    let size = codes "size" ∷ decimal p.size ∷ [] in
    All-cons ArePlain (codes "lpcc-lcp" ∷ codes "1" ∷ []) (size ∷ q ∷ rest) (plain_two (codes "lpcc-lcp") (codes "1") (plain_by_test (codes "lpcc-lcp") refl) (plain_by_test (codes "1") refl))
    (All-cons ArePlain size (q ∷ rest) (plain_two (codes "size") (decimal p.size) (plain_by_test (codes "size") refl) (plain_decimal p.size))
    (All-cons ArePlain q rest (plain_combination (codes "q") (sparse 0 p.q) (plain_by_test (codes "q") refl))
    (All-append ArePlain (rows_words 0 p.rows) (end_words ∷ []) (plain_rows 0 p.rows) (All-cons ArePlain end_words [] plain_end (All-nil ArePlain)))))

-- ---- rows

abbrev bounded : Terms → Bounded
bounded ts = (pos 0, ts)

rows_again : (n k t : ℕ) (rows : List Terms) (rest : List (List ℕ)) → n ≤ 2 ^ 60 → k + length rows ≤ n → All (AreTerms 0 n) rows → next_begins (codes "row") rest ≡ false
    → section_from (codes "row") (row_at n) k (record { taken = t; lines = map line_bytes (rows_words k rows) ++ rest; cut = false }) (map line_bytes (rows_words k rows) ++ rest)
    ≡ Ok (map bounded rows, record { taken = t + length rows; lines = rest; cut = false })
unfolding section_from
rows_again n k t [] rest few size h none = stop rest none ∙ ap (λ (m : ℕ). Ok ([], record { taken = m; lines = rest; cut = false })) (let z : t ≡ t + 0 = omega arith in z)
  where
    stop : (ls : List (List ℕ)) → next_begins (codes "row") ls ≡ false → section_from (codes "row") (row_at n) k (record { taken = t; lines = ls; cut = false }) ls ≡ Ok ([], record { taken = t; lines = ls; cut = false })
    stop [] e = refl
    stop (l ∷ ls) e = ap (λ (b : Bool). cond b (at (t + 1) (row_at n k (words l)) >>= λ x. section_from (codes "row") (row_at n) (k + 1) (record { taken = t + 1; lines = ls; cut = false }) ls >>= λ found. Ok (x ∷ found.0, found.1)) (Ok ([], record { taken = t; lines = l ∷ ls; cut = false }))) e
rows_again n k t (row ∷ rows) rest few size h none =
    let ws = bounded_words (codes "row") (decimal (k + 1)) row in
    let plain = plain_bounded (codes "row") (decimal (k + 1)) row (plain_by_test (codes "row") refl) (plain_decimal (k + 1)) in
    let ls = map line_bytes (rows_words (k + 1) rows) ++ rest in
    let next : Left = record { taken = t + 1; lines = ls; cut = false } in
    ap (λ (b : Bool). cond b (at (t + 1) (row_at n k (words (line_bytes ws))) >>= λ x. section_from (codes "row") (row_at n) (k + 1) next ls >>= λ found. Ok (x ∷ found.0, found.1)) (Ok ([], record { taken = t; lines = line_bytes ws ∷ ls; cut = false })))
    (begins_with (codes "row") (codes "row") (decimal (k + 1) ∷ colon ∷ flat_map term_words row) true plain refl)
    ∙ ap (λ (vs : List Word). at (t + 1) (row_at n k vs) >>= λ x. section_from (codes "row") (row_at n) (k + 1) next ls >>= λ found. Ok (x ∷ found.0, found.1)) (words_joined (codes "row") (decimal (k + 1) ∷ colon ∷ flat_map term_words row) plain)
    ∙ ap (λ (r : Reading Bounded). at (t + 1) r >>= λ x. section_from (codes "row") (row_at n) (k + 1) next ls >>= λ found. Ok (x ∷ found.0, found.1)) (row_again n k row few (omega (arith, size)) (All-head (AreTerms 0 n) row rows h))
    ∙ ap (λ (r : Found (List Bounded × Left)). r >>= λ found. Ok (bounded row ∷ found.0, found.1)) (rows_again n (k + 1) (t + 1) rows rest few (omega (arith, size)) (All-tail (AreTerms 0 n) row rows h) none)
    ∙ ap (λ (m : ℕ). Ok (bounded row ∷ map bounded rows, record { taken = m; lines = rest; cut = false })) (let z : t + 1 + length rows ≡ t + length (row ∷ rows) = omega arith in z)

terms_back : (rows : List Terms) → terms_in (map bounded rows) ≡ rows
terms_back [] = refl
terms_back (row ∷ rows) = ap (λ (xs : List Terms). row ∷ xs) (terms_back rows)

-- ---- a complementarity problem

abbrev at_line : ℕ → List (List ℕ) → Left
at_line t ls = record { taken = t; lines = ls; cut = false }

pub lcp_spelled_is_read : (text : List ℕ) (p : Lcp) → SpellsLcp text p → lcp_at (all_lines text) ≡ Ok p
unfolding lcp_at head_step section_step behind_end
lcp_spelled_is_read text p s =
    let h = s.rules in
    let n = p.size in
    let few : n ≤ MOST_PAIRS = few_pairs (lcp_counts n p.rows) h.few in
    let q = sparse 0 p.q in
    let q_is : AreTerms 0 n q = sparse_are 0 n p.q (omega (arith, h.numbers)) h.fitting in
    let last = line_bytes end_words ∷ [] in
    let rows = map line_bytes (rows_words 0 p.rows) ++ last in
    let q_line = line_bytes (combination_words (codes "q") q) in
    let size_line = line_bytes (codes "size" ∷ decimal n ∷ []) in
    let start = spelled_lines text (lcp_words p) (plain_lcp p) s.text_is ∙ ap (λ (ls : List (List ℕ)). at_line 0 (codes "lpcc-lcp 1" ∷ size_line ∷ q_line ∷ ls)) (map_parts (rows_words 0 p.rows)) in
    ap lcp_at start
    ∙ ap (λ (r : Found (ℕ × Left)). r >>= λ size. line_as (combination_at (codes "q") 0 size.0) size.1 >>= λ k. section_step (codes "row") (row_at size.0) 0 k.1 >>= λ found. line_as (lcp_end_at size.0 (terms_in found.0)) found.1 >>= λ end. behind_end end.1 >>= λ _. Ok (lcp_of size.0 k.0 found.0))
    (read_line size_at 1 (codes "size") (decimal n ∷ []) (q_line ∷ rows) n (plain_two (codes "size") (decimal n) (plain_by_test (codes "size") refl) (plain_decimal n)) (size_again n h.some (omega (arith, few))))
    ∙ ap (λ (r : Found (Terms × Left)). r >>= λ k. section_step (codes "row") (row_at n) 0 k.1 >>= λ found. line_as (lcp_end_at n (terms_in found.0)) found.1 >>= λ end. behind_end end.1 >>= λ _. Ok (lcp_of n k.0 found.0))
    (read_line (combination_at (codes "q") 0 n) 2 (codes "q") (colon ∷ flat_map term_words q) rows q (plain_combination (codes "q") q (plain_by_test (codes "q") refl)) (combination_again (codes "q") 0 n q (omega (arith, few)) q_is))
    ∙ ap (λ (r : Found (List Bounded × Left)). r >>= λ found. line_as (lcp_end_at n (terms_in found.0)) found.1 >>= λ end. behind_end end.1 >>= λ _. Ok (lcp_of n q found.0))
    (rows_again n 0 3 p.rows last (omega (arith, few)) (omega (arith, h.size)) h.rows (begins_with (codes "row") (codes "end") [] false plain_end refl))
    ∙ ap (λ (r : Found (List Word × Left)). r >>= λ end. behind_end end.1 >>= λ _. Ok (lcp_of n q (map bounded p.rows)))
    (read_line (lcp_end_at n (terms_in (map bounded p.rows))) (3 + length p.rows) (codes "end") [] [] [] plain_end (ap (λ (rs : List Terms). lcp_end_at n rs end_words) (terms_back p.rows) ∙ lcp_end_again n p.rows h.size h.few))
    ∙ ap (λ (rs : List Terms). Ok (record { size = n; q = coefficients 0 n q; rows = rs })) (terms_back p.rows)
    ∙ ap (λ (vs : List ℤ). Ok (record { size = n; q = vs; rows = p.rows })) (ap (λ (m : ℕ). coefficients 0 m q) (sym h.numbers) ∙ dense_again 0 p.q)
  where
    few_pairs : (c : Counts) → are_few c ≡ true → c.pairs ≤ MOST_PAIRS
    few_pairs c e =
        let a = and_parts (leb c.columns MOST_COLUMNS && leb c.rows MOST_ROWS && leb c.entries MOST_ENTRIES && leb c.pairs MOST_PAIRS) (leb c.constraints MOST_CONSTRAINTS) e in
        leb-true c.pairs MOST_PAIRS (and_parts (leb c.columns MOST_COLUMNS && leb c.rows MOST_ROWS && leb c.entries MOST_ENTRIES) (leb c.pairs MOST_PAIRS) a.0).1

    map_parts : (xs : List (List Word)) → map line_bytes (xs ++ end_words ∷ []) ≡ map line_bytes xs ++ line_bytes end_words ∷ []
    map_parts [] = refl
    map_parts (x ∷ xs) = ap (λ (ls : List (List ℕ)). line_bytes x ∷ ls) (map_parts xs)

-- ---- a bilevel problem

abbrev pair_of : Line → Bounded
pair_of x = (x.rhs, x.terms)

lines_again : (kind : Word) (count k t : ℕ) (xs : List Line) (rest : List (List ℕ)) → IsPlain kind → count ≤ 2 ^ 60 → All (IsLine count) xs → next_begins kind rest ≡ false
    → section_from kind (bounded_in kind count) k (record { taken = t; lines = map line_bytes (map (line_words kind) xs) ++ rest; cut = false }) (map line_bytes (map (line_words kind) xs) ++ rest)
    ≡ Ok (map pair_of xs, record { taken = t + length xs; lines = rest; cut = false })
unfolding section_from
lines_again kind count k t [] rest plain few h none = stop rest none ∙ ap (λ (m : ℕ). Ok ([], record { taken = m; lines = rest; cut = false })) (let z : t ≡ t + 0 = omega arith in z)
  where
    stop : (ls : List (List ℕ)) → next_begins kind ls ≡ false → section_from kind (bounded_in kind count) k (record { taken = t; lines = ls; cut = false }) ls ≡ Ok ([], record { taken = t; lines = ls; cut = false })
    stop [] e = refl
    stop (l ∷ ls) e = ap (λ (b : Bool). cond b (at (t + 1) (bounded_in kind count k (words l)) >>= λ x. section_from kind (bounded_in kind count) (k + 1) (record { taken = t + 1; lines = ls; cut = false }) ls >>= λ found. Ok (x ∷ found.0, found.1)) (Ok ([], record { taken = t; lines = l ∷ ls; cut = false }))) e
lines_again kind count k t (x ∷ xs) rest plain few h none =
    let ws = line_words kind x in
    let all = plain_bounded kind (signed_decimal x.rhs) x.terms plain (plain_signed x.rhs) in
    let ls = map line_bytes (map (line_words kind) xs) ++ rest in
    let next : Left = record { taken = t + 1; lines = ls; cut = false } in
    let here = All-head (IsLine count) x xs h in
    ap (λ (b : Bool). cond b (at (t + 1) (bounded_in kind count k (words (line_bytes ws))) >>= λ y. section_from kind (bounded_in kind count) (k + 1) next ls >>= λ found. Ok (y ∷ found.0, found.1)) (Ok ([], record { taken = t; lines = line_bytes ws ∷ ls; cut = false })))
    (begins_with kind kind (signed_decimal x.rhs ∷ colon ∷ flat_map term_words x.terms) true all ((bytes_eq-Decides kind kind).1 refl))
    ∙ ap (λ (vs : List Word). at (t + 1) (bounded_in kind count k vs) >>= λ y. section_from kind (bounded_in kind count) (k + 1) next ls >>= λ found. Ok (y ∷ found.0, found.1)) (words_joined kind (signed_decimal x.rhs ∷ colon ∷ flat_map term_words x.terms) all)
    ∙ ap (λ (r : Reading Bounded). at (t + 1) r >>= λ y. section_from kind (bounded_in kind count) (k + 1) next ls >>= λ found. Ok (y ∷ found.0, found.1)) (bounded_again kind count x.rhs x.terms few here.0 here.1)
    ∙ ap (λ (r : Found (List Bounded × Left)). r >>= λ found. Ok (pair_of x ∷ found.0, found.1)) (lines_again kind count (k + 1) (t + 1) xs rest plain few (All-tail (IsLine count) x xs h) none)
    ∙ ap (λ (m : ℕ). Ok (pair_of x ∷ map pair_of xs, record { taken = m; lines = rest; cut = false })) (let z : t + 1 + length xs ≡ t + length (x ∷ xs) = omega arith in z)

lines_back : (xs : List Line) → map line_of (map pair_of xs) ≡ xs
lines_back [] = refl
lines_back (x ∷ xs) = ap (λ (ys : List Line). x ∷ ys) (lines_back xs)

terms_of_pairs : (xs : List Line) → terms_in (map pair_of xs) ≡ map terms_of xs
terms_of_pairs [] = refl
terms_of_pairs (x ∷ xs) = ap (λ (ts : List Terms). x.terms ∷ ts) (terms_of_pairs xs)

plain_lines : (kind : Word) (xs : List Line) → IsPlain kind → All ArePlain (map (line_words kind) xs)
plain_lines kind xs h = All-map ArePlain (line_words kind) xs (λ i d l. plain_bounded kind (signed_decimal (get_or xs i d).rhs) (get_or xs i d).terms h (plain_signed (get_or xs i d).rhs))

plain_bilevel : (p : Bilevel) → All ArePlain (bilevel_words p)
plain_bilevel p =
    let ups = map (line_words (codes "up")) p.up in
    let lows = map (line_words (codes "low")) p.low in
    let rest = ups ++ lows ++ end_words ∷ [] in
    let f = combination_words (codes "follow") (sparse p.nx p.follow) in
    let c = combination_words (codes "cost") (sparse 0 p.cost) in
    let sizes = codes "sizes" ∷ decimal p.nx ∷ decimal p.ny ∷ [] in
    All-cons ArePlain (codes "lpcc-bilevel" ∷ codes "1" ∷ []) (sizes ∷ c ∷ f ∷ rest) (plain_two (codes "lpcc-bilevel") (codes "1") (plain_by_test (codes "lpcc-bilevel") refl) (plain_by_test (codes "1") refl))
    (All-cons ArePlain sizes (c ∷ f ∷ rest) (All-cons IsPlain (codes "sizes") (decimal p.nx ∷ decimal p.ny ∷ []) (plain_by_test (codes "sizes") refl) (plain_two (decimal p.nx) (decimal p.ny) (plain_decimal p.nx) (plain_decimal p.ny)))
    (All-cons ArePlain c (f ∷ rest) (plain_combination (codes "cost") (sparse 0 p.cost) (plain_by_test (codes "cost") refl))
    (All-cons ArePlain f rest (plain_combination (codes "follow") (sparse p.nx p.follow) (plain_by_test (codes "follow") refl))
    (All-append ArePlain (ups ++ lows) (end_words ∷ []) (All-append ArePlain ups lows (plain_lines (codes "up") p.up (plain_by_test (codes "up") refl)) (plain_lines (codes "low") p.low (plain_by_test (codes "low") refl)))
    (All-cons ArePlain end_words [] plain_end (All-nil ArePlain))))))

no_up : (xs : List Line) → next_begins (codes "up") (map line_bytes (map (line_words (codes "low")) xs) ++ line_bytes end_words ∷ []) ≡ false
no_up [] = begins_with (codes "up") (codes "end") [] false plain_end refl
no_up (x ∷ xs) = begins_with (codes "up") (codes "low") (signed_decimal x.rhs ∷ colon ∷ flat_map term_words x.terms) false (plain_bounded (codes "low") (signed_decimal x.rhs) x.terms (plain_by_test (codes "low") refl) (plain_signed x.rhs)) refl

three_parts : (xs ys : List (List Word)) → map line_bytes (xs ++ ys ++ end_words ∷ []) ≡ map line_bytes xs ++ (map line_bytes ys ++ line_bytes end_words ∷ [])
three_parts [] ys = two_parts ys
  where
    two_parts : (zs : List (List Word)) → map line_bytes (zs ++ end_words ∷ []) ≡ map line_bytes zs ++ line_bytes end_words ∷ []
    two_parts [] = refl
    two_parts (z ∷ zs) = ap (λ (ls : List (List ℕ)). line_bytes z ∷ ls) (two_parts zs)
three_parts (x ∷ xs) ys = ap (λ (ls : List (List ℕ)). line_bytes x ∷ ls) (three_parts xs ys)

rest_again : (p : Bilevel) (t : ℕ) → IsBilevel p → bilevel_rest (p.nx, p.ny) (sparse 0 p.cost) (sparse p.nx p.follow) (map pair_of p.up) (map pair_of p.low) (record { taken = t; lines = line_bytes end_words ∷ []; cut = false }) ≡ Ok p
unfolding bilevel_rest behind_end
rest_again p t h =
    let counts = bilevel_counts p.nx p.ny (terms_in (map pair_of p.up)) (terms_in (map pair_of p.low)) in
    let few : are_few counts ≡ true =
    ap (λ (ts : List Terms). are_few (bilevel_counts p.nx p.ny ts (terms_in (map pair_of p.low)))) (terms_of_pairs p.up) ∙ ap (λ (ts : List Terms). are_few (bilevel_counts p.nx p.ny (map terms_of p.up) ts)) (terms_of_pairs p.low) ∙ h.few in
    ap (λ (r : Found (List Word × Left)). r >>= λ end. behind_end end.1 >>= λ _. Ok (bilevel_of p.nx p.ny (sparse 0 p.cost) (sparse p.nx p.follow) (map pair_of p.up) (map pair_of p.low)))
    (read_line (end_at counts) t (codes "end") [] [] [] plain_end (end_again counts few))
    ∙ ap (λ (vs : List ℤ). Ok (record { nx = p.nx; ny = p.ny; cost = vs; follow = coefficients p.nx p.ny (sparse p.nx p.follow); up = map line_of (map pair_of p.up); low = map line_of (map pair_of p.low) }))
    (ap (λ (m : ℕ). coefficients 0 m (sparse 0 p.cost)) (sym h.costs) ∙ dense_again 0 p.cost)
    ∙ ap (λ (vs : List ℤ). Ok (record { nx = p.nx; ny = p.ny; cost = p.cost; follow = vs; up = map line_of (map pair_of p.up); low = map line_of (map pair_of p.low) }))
    (ap (λ (m : ℕ). coefficients p.nx m (sparse p.nx p.follow)) (sym h.followed) ∙ dense_again p.nx p.follow)
    ∙ ap (λ (xs : List Line). Ok (record { nx = p.nx; ny = p.ny; cost = p.cost; follow = p.follow; up = xs; low = map line_of (map pair_of p.low) })) (lines_back p.up)
    ∙ ap (λ (xs : List Line). Ok (record { nx = p.nx; ny = p.ny; cost = p.cost; follow = p.follow; up = p.up; low = xs })) (lines_back p.low)

few_columns : (c : Counts) → are_few c ≡ true → c.columns ≤ MOST_COLUMNS
few_columns c e =
    let a = and_parts (leb c.columns MOST_COLUMNS && leb c.rows MOST_ROWS && leb c.entries MOST_ENTRIES && leb c.pairs MOST_PAIRS) (leb c.constraints MOST_CONSTRAINTS) e in
    let b = and_parts (leb c.columns MOST_COLUMNS && leb c.rows MOST_ROWS && leb c.entries MOST_ENTRIES) (leb c.pairs MOST_PAIRS) a.0 in
    let d = and_parts (leb c.columns MOST_COLUMNS && leb c.rows MOST_ROWS) (leb c.entries MOST_ENTRIES) b.0 in
    leb-true c.columns MOST_COLUMNS (and_parts (leb c.columns MOST_COLUMNS) (leb c.rows MOST_ROWS) d.0).0

pub bilevel_spelled_is_read : (text : List ℕ) (p : Bilevel) → SpellsBilevel text p → bilevel_at (all_lines text) ≡ Ok p
unfolding bilevel_at bilevel_costs bilevel_lines head_step section_step
bilevel_spelled_is_read text p s =
    let h = s.rules in
    let count = p.nx + p.ny in
    let columns : p.nx + p.ny + length (map terms_of p.low) ≤ MOST_COLUMNS = few_columns (bilevel_counts p.nx p.ny (map terms_of p.up) (map terms_of p.low)) h.few in
    let small : count ≤ 2 ^ 60 = omega (arith, columns) in
    let c = sparse 0 p.cost in
    let f = sparse p.nx p.follow in
    let c_are : AreTerms 0 count c = sparse_are 0 count p.cost (omega (arith, h.costs)) h.fitting in
    let f_are : AreTerms p.nx count f = sparse_are p.nx count p.follow (omega (arith, h.followed)) h.follow_fitting in
    let last = line_bytes end_words ∷ [] in
    let lows = map line_bytes (map (line_words (codes "low")) p.low) ++ last in
    let ups = map line_bytes (map (line_words (codes "up")) p.up) ++ lows in
    let c_line = line_bytes (combination_words (codes "cost") c) in
    let f_line = line_bytes (combination_words (codes "follow") f) in
    let sizes_line = line_bytes (codes "sizes" ∷ decimal p.nx ∷ decimal p.ny ∷ []) in
    let n : ℕ × ℕ = (p.nx, p.ny) in
    ap bilevel_at (spelled_lines text (bilevel_words p) (plain_bilevel p) s.text_is ∙ ap (λ (ls : List (List ℕ)). at_line 0 (codes "lpcc-bilevel 1" ∷ sizes_line ∷ c_line ∷ f_line ∷ ls)) (three_parts (map (line_words (codes "up")) p.up) (map (line_words (codes "low")) p.low)))
    ∙ ap (λ (r : Found ((ℕ × ℕ) × Left)). r >>= λ sizes. bilevel_costs sizes.0 sizes.1)
    (read_line sizes_at 1 (codes "sizes") (decimal p.nx ∷ decimal p.ny ∷ []) (c_line ∷ f_line ∷ ups) n (All-cons IsPlain (codes "sizes") (decimal p.nx ∷ decimal p.ny ∷ []) (plain_by_test (codes "sizes") refl) (plain_two (decimal p.nx) (decimal p.ny) (plain_decimal p.nx) (plain_decimal p.ny)))
    (sizes_again p.nx p.ny h.some_x h.some_y (omega (arith, columns)) (omega (arith, columns))))
    ∙ ap (λ (r : Found (Terms × Left)). r >>= λ cost. line_as (combination_at (codes "follow") p.nx count) cost.1 >>= λ follow. bilevel_lines n cost.0 follow.0 follow.1)
    (read_line (combination_at (codes "cost") 0 count) 2 (codes "cost") (colon ∷ flat_map term_words c) (f_line ∷ ups) c (plain_combination (codes "cost") c (plain_by_test (codes "cost") refl)) (combination_again (codes "cost") 0 count c small c_are))
    ∙ ap (λ (r : Found (Terms × Left)). r >>= λ follow. bilevel_lines n c follow.0 follow.1)
    (read_line (combination_at (codes "follow") p.nx count) 3 (codes "follow") (colon ∷ flat_map term_words f) ups f (plain_combination (codes "follow") f (plain_by_test (codes "follow") refl)) (combination_again (codes "follow") p.nx count f small f_are))
    ∙ ap (λ (r : Found (List Bounded × Left)). r >>= λ up. section_step (codes "low") (bounded_in (codes "low") count) 0 up.1 >>= λ low. bilevel_rest n c f up.0 low.0 low.1)
    (lines_again (codes "up") count 0 4 p.up lows (plain_by_test (codes "up") refl) small h.up (no_up p.low))
    ∙ ap (λ (r : Found (List Bounded × Left)). r >>= λ low. bilevel_rest n c f (map pair_of p.up) low.0 low.1)
    (lines_again (codes "low") count 0 (4 + length p.up) p.low last (plain_by_test (codes "low") refl) small h.low (begins_with (codes "low") (codes "end") [] false plain_end refl))
    ∙ rest_again p (4 + length p.up + length p.low) h
