-- The bytes at the places of fields are the fields.
use Rattle.std.proofs.Common.{ℕ, zero, suc, ◌+◌, ◌-◌, ◌≡◌, ◌≤◌, Bool, true, false, cond, eqb, List, [], ◌∷◌, ◌++◌, length, map, take, drop, refl, ap, sym, ◌∙◌, append_assoc, arith}
use Rattle.std.proofs.lemmas.List.{length-append}
use Rattle.std.proofs.lemmas.List.Elements.{All-from_recursion}
use Rattle.std.specs.Prelude.{All}
use Rattle.std.specs.List.{AllByRecursion, prefix_len}
use Rattle.mps_lex.specs.declared.line.Line as placed
use Rattle.mps_lex.specs.Kinds.{Name, is_blank, ends_here, fields, onto_field}
use Rattle.mps_lex.specs.Lines.{onto_first, pieces, without_end, content, fields_of, lines_from, lines_of}
use Rattle.mps_lex.specs.Places.{Place, begin_at, places_from, placed_from, placed_lines, word_at, words_at, HasBytesOf}
use Rattle.mps_lex.proofs.Cutting.{in_field}
use Rattle.mps_lex.proofs.Placing.{place_front}

-- ---- the bytes of a field

drop_more : (at b : ℕ) (text bs : List ℕ) → drop at text ≡ b ∷ bs → drop (at + 1) text ≡ bs
drop_more zero b text bs e = ap (drop 1) e
drop_more (suc at) b [] bs e = absurd cc
drop_more (suc at) b (t ∷ text) bs e = ap (λ (k : ℕ). drop k (t ∷ text)) (shift at) ∙ drop_more at b text bs e
  where
    shift : (n : ℕ) → suc n + 1 ≡ suc (n + 1)
    shift n = omega arith

take_more : (b n : ℕ) (xs ys : List ℕ) → xs ≡ b ∷ ys → take (suc n) xs ≡ b ∷ take n ys
take_more b n xs ys e = ap (take (suc n)) e

-- a word that begins one byte sooner
sooner : (text : List ℕ) (at b n : ℕ) (bs : List ℕ) → drop at text ≡ b ∷ bs → word_at text (at, (at + 1) + n) ≡ b ∷ word_at text (at + 1, (at + 1) + n)
sooner text at b n bs e =
    let long : ((at + 1) + n) - at ≡ suc n = omega arith in
    let short : ((at + 1) + n) - (at + 1) ≡ n = omega arith in
    ap (λ (k : ℕ). take k (drop at text)) long ∙ take_more b n (drop at text) bs e
    ∙ ap (λ (x : List ℕ). b ∷ take n x) (sym (drop_more at b text bs e))
    ∙ ap (λ (k : ℕ). b ∷ take k (drop (at + 1) text)) (sym short)

one_byte : (text : List ℕ) (at b : ℕ) (bs : List ℕ) → drop at text ≡ b ∷ bs → word_at text (at, at + 1) ≡ b ∷ []
one_byte text at b bs e =
    let one : (at + 1) - at ≡ suc zero = omega arith in
    ap (λ (k : ℕ). take k (drop at text)) one ∙ take_more b zero (drop at text) bs e

goes_on : (text : List ℕ) (at b c : ℕ) (cs rest : List ℕ) → drop at text ≡ b ∷ c ∷ cs ++ rest → is_blank c ≡ false → map (word_at text) (places_from (at + 1) (c ∷ cs)) ≡ fields (c ∷ cs)
    → map (word_at text) (begin_at at (places_from (at + 1) (c ∷ cs))) ≡ onto_field b (fields (c ∷ cs))
goes_on text at b c cs rest e h so_far =
    let n = prefix_len in_field cs in
    let front = place_front (at + 1) c cs h in
    ap (λ (ps : List Place). map (word_at text) (begin_at at ps)) front
    ∙ ap (λ (w : Name). w ∷ map (word_at text) (places_from ((at + 1) + suc n) (drop n cs))) (sooner text at b (suc n) (c ∷ cs ++ rest) e)
    ∙ ap (λ (ps : List Place). onto_field b (map (word_at text) ps)) (sym front) ∙ ap (onto_field b) so_far

by_first : (text : List ℕ) (blank ends : Bool) (at b : ℕ) (bs rest : List ℕ) → ends_here bs ≡ ends → drop at text ≡ b ∷ bs ++ rest → map (word_at text) (places_from (at + 1) bs) ≡ fields bs
    → map (word_at text) (cond blank (places_from (at + 1) bs) (cond ends ((at, at + 1) ∷ places_from (at + 1) bs) (begin_at at (places_from (at + 1) bs)))) ≡ cond blank (fields bs) (cond ends ((b ∷ []) ∷ fields bs) (onto_field b (fields bs)))
by_first text true ends at b bs rest q e so_far = so_far
by_first text false true at b bs rest q e so_far = ap (λ (w : Name). w ∷ map (word_at text) (places_from (at + 1) bs)) (one_byte text at b (bs ++ rest) e) ∙ ap (λ (ws : List Name). (b ∷ []) ∷ ws) so_far
by_first text false false at b [] rest q e so_far = absurd cc
by_first text false false at b (c ∷ cs) rest q e so_far = goes_on text at b c cs rest e q so_far

words_here : (text : List ℕ) (at : ℕ) (bs rest : List ℕ) → drop at text ≡ bs ++ rest → map (word_at text) (places_from at bs) ≡ fields bs
words_here text at [] rest e = refl
words_here text at (b ∷ bs) rest e = by_first text (is_blank b) (ends_here bs) at b bs rest refl e (words_here text (at + 1) bs rest (drop_more at b text (bs ++ rest) e))

-- ---- places with bytes

begin_has : (text : List ℕ) (at : ℕ) (ps : List Place) → at + 1 ≤ length text → AllByRecursion (λ p. (at + 1 ≤ p.0) × HasBytesOf text p) ps → AllByRecursion (λ p. (at ≤ p.0) × HasBytesOf text p) (begin_at at ps)
begin_has text at [] h a = ((omega arith, (omega arith, h)), tt)
begin_has text at (p ∷ ps) h a = ((omega arith, (omega (arith, a.0.0, a.0.1.0), a.0.1.1)), later ps a.1)
  where
    later : (qs : List Place) → AllByRecursion (λ p. (at + 1 ≤ p.0) × HasBytesOf text p) qs → AllByRecursion (λ p. (at ≤ p.0) × HasBytesOf text p) qs
    later [] b = tt
    later (q ∷ qs) b = ((omega (arith, b.0.0), b.0.1), later qs b.1)

later_have : (text : List ℕ) (at : ℕ) (ps : List Place) → AllByRecursion (λ p. (at + 1 ≤ p.0) × HasBytesOf text p) ps → AllByRecursion (λ p. (at ≤ p.0) × HasBytesOf text p) ps
later_have text at [] a = tt
later_have text at (p ∷ ps) a = ((omega (arith, a.0.0), a.0.1), later_have text at ps a.1)

first_has : (text : List ℕ) (blank ends : Bool) (at : ℕ) (ps : List Place) → at + 1 ≤ length text → AllByRecursion (λ p. (at + 1 ≤ p.0) × HasBytesOf text p) ps
    → AllByRecursion (λ p. (at ≤ p.0) × HasBytesOf text p) (cond blank ps (cond ends ((at, at + 1) ∷ ps) (begin_at at ps)))
first_has text true ends at ps h a = later_have text at ps a
first_has text false true at ps h a = ((omega arith, (omega arith, h)), later_have text at ps a)
first_has text false false at ps h a = begin_has text at ps h a

places_have : (text : List ℕ) (at : ℕ) (bs : List ℕ) → at + length bs ≤ length text → AllByRecursion (λ p. (at ≤ p.0) × HasBytesOf text p) (places_from at bs)
places_have text at [] h = tt
places_have text at (b ∷ bs) h = first_has text (is_blank b) (ends_here bs) at (places_from (at + 1) bs) (omega (arith, h)) (places_have text (at + 1) bs (omega (arith, h)))

only_bytes : (text : List ℕ) (at : ℕ) (ps : List Place) → AllByRecursion (λ p. (at ≤ p.0) × HasBytesOf text p) ps → AllByRecursion (HasBytesOf text) ps
only_bytes text at [] a = tt
only_bytes text at (p ∷ ps) a = (a.0.1, only_bytes text at ps a.1)

-- ---- lines

abbrev joined : List (List ℕ) → List ℕ
joined [] = []
joined (p ∷ ps) = p ++ joined ps

joined_onto : (b : ℕ) (ps : List (List ℕ)) → joined (onto_first b ps) ≡ b ∷ joined ps
joined_onto b [] = refl
joined_onto b (p ∷ ps) = refl

joined_here : (t : Bool) (b : ℕ) (bs : List ℕ) (ps : List (List ℕ)) → joined ps ≡ bs → joined (cond t ((b ∷ []) ∷ ps) (onto_first b ps)) ≡ b ∷ bs
joined_here true b bs ps h = ap (λ (x : List ℕ). b ∷ x) h
joined_here false b bs ps h = joined_onto b ps ∙ ap (λ (x : List ℕ). b ∷ x) h

joined_pieces : (bs : List ℕ) → joined (pieces bs) ≡ bs
joined_pieces [] = refl
joined_pieces (b ∷ bs) = joined_here (eqb b 10) b bs (pieces bs) (joined_pieces bs)

-- what stands behind, once the last byte is taken where it is c
cut_off : (c : ℕ) (xs : List ℕ) → (end : List ℕ) × (xs ≡ without_end c xs ++ end)
cut_off c [] = ([], refl)
cut_off c (b ∷ []) = by (eqb b c)
  where
    by : (t : Bool) → (end : List ℕ) × (b ∷ [] ≡ cond t [] (b ∷ []) ++ end)
    by true = (b ∷ [], refl)
    by false = ([], refl)
cut_off c (b ∷ d ∷ xs) = let r = cut_off c (d ∷ xs) in (r.0, ap (λ (x : List ℕ). b ∷ x) r.1)

content_front : (piece : List ℕ) → (end : List ℕ) × (piece ≡ content piece ++ end)
content_front piece =
    let a = cut_off 10 piece in
    let b = cut_off 13 (without_end 10 piece) in
    (b.0 ++ a.0, a.1 ∙ ap (λ (x : List ℕ). x ++ a.0) b.1 ∙ append_assoc (content piece) b.0 a.0)

drop_length : (at : ℕ) (text piece rest : List ℕ) → drop at text ≡ piece ++ rest → drop (at + length piece) text ≡ rest
drop_length at text [] rest e = ap (λ (k : ℕ). drop k text) (none at) ∙ e
  where
    none : (n : ℕ) → n + 0 ≡ n
    none n = omega arith
drop_length at text (b ∷ piece) rest e = ap (λ (k : ℕ). drop k text) (shift at (length piece)) ∙ drop_length (at + 1) text piece rest (drop_more at b text (piece ++ rest) e)
  where
    shift : (n m : ℕ) → n + suc m ≡ (n + 1) + m
    shift n m = omega arith

words_from : (text : List ℕ) (number at : ℕ) (ps : List (List ℕ)) → drop at text ≡ joined ps → map (words_at text) (placed_from number at ps) ≡ map fields_of (lines_from number ps)
words_from text number at [] e = refl
words_from text number at (p ∷ ps) e =
    let c = content_front p in
    let here : drop at text ≡ content p ++ (c.0 ++ joined ps) = e ∙ ap (λ (x : List ℕ). x ++ joined ps) c.1 ∙ append_assoc (content p) c.0 (joined ps) in
    ap (λ (w : List Name). w ∷ map (words_at text) (placed_from (number + 1) (at + length p) ps)) (words_here text at (content p) (c.0 ++ joined ps) here)
    ∙ ap (λ (ws : List (List Name)). fields (content p) ∷ ws) (words_from text (number + 1) (at + length p) ps (drop_length at text p (joined ps) e))

pub words_are : (text : List ℕ) → map (words_at text) (placed_lines text) ≡ map fields_of (lines_of text)
words_are text = words_from text 1 0 (pieces text) (sym (joined_pieces text))

have_from : (text : List ℕ) (number at : ℕ) (ps : List (List ℕ)) → at + length (joined ps) ≤ length text → AllByRecursion (λ (l : placed.Line). All (HasBytesOf text) l.fields) (placed_from number at ps)
have_from text number at [] h = tt
have_from text number at (p ∷ ps) h =
    let c = content_front p in
    let len : length p ≡ length (content p) + length c.0 = ap length c.1 ∙ length-append (content p) c.0 in
    let all : length (joined (p ∷ ps)) ≡ length p + length (joined ps) = length-append p (joined ps) in (
      All-from_recursion (HasBytesOf text) (places_from at (content p)) (only_bytes text at (places_from at (content p)) (places_have text at (content p) (omega (arith, h, all, len)))),
      have_from text (number + 1) (at + length p) ps (omega (arith, h, all)),
    )

pub within : (text : List ℕ) → All (λ (l : placed.Line). All (HasBytesOf text) l.fields) (placed_lines text)
within text = All-from_recursion _ (placed_lines text) (have_from text 1 0 (pieces text) (omega (arith, ap length (joined_pieces text))))
