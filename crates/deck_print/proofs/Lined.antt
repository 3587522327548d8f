-- The lines of texts that are made line by line.
use Rattle.std.proofs.Common.{ℕ, suc, ◌+◌, ◌<◌, ◌≡◌, Bool, false, true, cond, eqb, List, [], ◌∷◌, ◌++◌, length, refl, sym, ap, ◌∙◌, append_assoc, arith}
use Rattle.std.specs.Prelude.{codes}
use Rattle.std.specs.List.{AllByRecursion}
use Rattle.std.proofs.lemmas.Bool.{ne_eqb, or_from}
use Rattle.mps_lex.specs.declared.line.LineKind.TheVariants.{Head, Entry}
use Rattle.mps_lex.specs.declared.line.Section.{Section}
use Rattle.mps_lex.specs.declared.line.Section.TheVariants.{Name as NameSection, Rows, Columns, Rhs, Bounds, Pairs, Endata}
use Rattle.mps_lex.specs.Kinds.{Name, is_blank, ends_here, onto_field, fields, kind_of, kind_indented, section_named, is_left_out}
use Rattle.mps_lex.specs.Lines.{Line, onto_first, pieces, without_end, content, line_of, lines_from}
use Rattle.decks.proofs.KeptParts.{all_append, all_weaker}
use Rattle.decks.specs.Spelling.{size_of}
use Rattle.deck_print.specs.Printed.{ArePlain, IsWord, line_text, data_text}

-- ---- pieces

pub skip_word : (w rest p : List ℕ) (ps : List (List ℕ)) → ArePlain w → pieces rest ≡ p ∷ ps → pieces (w ++ rest) ≡ (w ++ p) ∷ ps
skip_word [] rest p ps h e = e
skip_word (b ∷ w) rest p ps h e =
    ap (λ t. cond t ((b ∷ []) ∷ pieces (w ++ rest)) (onto_first b (pieces (w ++ rest)))) (ne_eqb b 10 (λ z. omega (arith, z, h.0)))
    ∙ ap (onto_first b) (skip_word w rest p ps h.1 e)

piece_of_line : (ws : List Name) (more : List ℕ) → AllByRecursion IsWord ws → pieces (line_text ws ++ more) ≡ line_text ws ∷ pieces more
piece_of_line [] more h = refl
piece_of_line (w ∷ ws) more h =
    ap (onto_first 32) (ap pieces (append_assoc w (line_text ws) more) ∙ skip_word w (line_text ws ++ more) (line_text ws) (pieces more) h.0.plain (piece_of_line ws more h.1))

-- ---- what a line is

abbrev body : List Name → List ℕ
body [] = []
body (w ∷ ws) = 32 ∷ w ++ body ws

with_end : (ws : List Name) → line_text ws ≡ body ws ++ 10 ∷ []
with_end [] = refl
with_end (w ∷ ws) = ap (λ t. 32 ∷ w ++ t) (with_end ws) ∙ ap (λ t. 32 ∷ t) (sym (append_assoc w (body ws) (10 ∷ [])))

pub without_lf : (xs : List ℕ) → without_end 10 (xs ++ 10 ∷ []) ≡ xs
without_lf [] = refl
without_lf (x ∷ []) = refl
without_lf (x ∷ y ∷ ys) = ap (λ t. x ∷ t) (without_lf (y ∷ ys))

abbrev IsNoCr : ℕ → Type 0
IsNoCr b = b ≡ 13 → ⊥

pub without_cr : (xs : List ℕ) → AllByRecursion IsNoCr xs → without_end 13 xs ≡ xs
without_cr [] h = refl
without_cr (x ∷ []) h = ap (λ t. cond t [] (x ∷ [])) (ne_eqb x 13 h.0)
without_cr (x ∷ y ∷ ys) h = ap (λ t. x ∷ t) (without_cr (y ∷ ys) h.1)

pub no_cr : (w : List ℕ) → ArePlain w → AllByRecursion IsNoCr w
no_cr w h = all_weaker (λ b. 32 < b) IsNoCr (λ b l e. omega (arith, l, e)) w h

body_no_cr : (ws : List Name) → AllByRecursion IsWord ws → AllByRecursion IsNoCr (body ws)
body_no_cr [] h = tt
body_no_cr (w ∷ ws) h = (λ e. omega (arith, e), all_append IsNoCr w (body ws) (no_cr w h.0.plain) (body_no_cr ws h.1))

content_is : (ws : List Name) → AllByRecursion IsWord ws → content (line_text ws) ≡ body ws
content_is ws h = ap (λ t. without_end 13 (without_end 10 t)) (with_end ws) ∙ ap (without_end 13) (without_lf (body ws)) ∙ without_cr (body ws) (body_no_cr ws h)

not_blank : (b : ℕ) → 32 < b → is_blank b ≡ false
not_blank b h = or_from (eqb b 32) (eqb b 9) (ne_eqb b 32 (λ e. omega (arith, e, h))) (ne_eqb b 9 (λ e. omega (arith, e, h)))

word_front : (b : ℕ) (w rest : List ℕ) → ArePlain (b ∷ w) → ends_here rest ≡ true → fields (b ∷ w ++ rest) ≡ (b ∷ w) ∷ fields rest
word_front b [] rest h e =
    ap (λ t. cond t (fields rest) (cond (ends_here rest) ((b ∷ []) ∷ fields rest) (onto_field b (fields rest)))) (not_blank b h.0)
    ∙ ap (λ t. cond t ((b ∷ []) ∷ fields rest) (onto_field b (fields rest))) e
word_front b (c ∷ w) rest h e =
    let all = fields (c ∷ w ++ rest) in
    ap (λ t. cond t all (cond (is_blank c) ((b ∷ []) ∷ all) (onto_field b all))) (not_blank b h.0)
    ∙ ap (λ t. cond t ((b ∷ []) ∷ all) (onto_field b all)) (not_blank c h.1.0)
    ∙ ap (onto_field b) (word_front c w rest h.1 e)

body_ends : (ws : List Name) → ends_here (body ws) ≡ true
body_ends [] = refl
body_ends (w ∷ ws) = refl

fields_of_body : (ws : List Name) → AllByRecursion IsWord ws → fields (body ws) ≡ ws
fields_of_body [] h = refl
fields_of_body ([] ∷ ws) h = absurd (omega (arith, h.0.some))
fields_of_body ((b ∷ w) ∷ ws) h = word_front b w (body ws) h.0.plain (body_ends ws) ∙ ap (λ t. (b ∷ w) ∷ t) (fields_of_body ws h.1)

-- a data line with these words
abbrev pub said : ℕ → List Name → Line
said n ws = record { number = n; kind = Entry; fields = ws; size = length (line_text ws) }

-- the lines from this number on
abbrev pub all_said : ℕ → List (List Name) → List Line
all_said n [] = []
all_said n (ws ∷ wss) = said n ws ∷ all_said (n + 1) wss

abbrev pub AreWords : List Name → Type 0
AreWords [] = ⊥
AreWords (w ∷ ws) = AllByRecursion IsWord (w ∷ ws)

line_is : (n : ℕ) (w : Name) (ws : List Name) → AreWords (w ∷ ws) → line_of n (line_text (w ∷ ws)) ≡ said n (w ∷ ws)
line_is n w ws h =
    let words : fields (content (line_text (w ∷ ws))) ≡ w ∷ ws = ap fields (content_is (w ∷ ws) h) ∙ fields_of_body (w ∷ ws) h in
    let kind : kind_of (content (line_text (w ∷ ws))) ≡ Entry = ap kind_of (content_is (w ∷ ws) h) ∙ ap kind_indented (fields_of_body (w ∷ ws) h) in
    λ i. record { number = n; kind = kind i; fields = words i; size = length (line_text (w ∷ ws)) }

pub lines_behind : (n : ℕ) (wss : List (List Name)) (more : List ℕ) → AllByRecursion AreWords wss → lines_from n (pieces (data_text wss ++ more)) ≡ all_said n wss ++ lines_from (n + length wss) (pieces more)
lines_behind n [] more h = ap (λ k. lines_from k (pieces more)) (let z : n ≡ n + 0 = omega arith in z)
lines_behind n ([] ∷ wss) more h = absurd h.0
lines_behind n ((w ∷ ws) ∷ wss) more h =
    ap (λ t. lines_from n (pieces t)) (append_assoc (line_text (w ∷ ws)) (data_text wss) more)
    ∙ ap (lines_from n) (piece_of_line (w ∷ ws) (data_text wss ++ more) h.0)
    ∙ ap (λ l. l ∷ lines_from (n + 1) (pieces (data_text wss ++ more))) (line_is n w ws h.0)
    ∙ ap (λ t. said n (w ∷ ws) ∷ t) (lines_behind (n + 1) wss more h.1)
    ∙ ap (λ k. said n (w ∷ ws) ∷ all_said (n + 1) wss ++ lines_from k (pieces more)) (let z : n + 1 + length wss ≡ n + length ((w ∷ ws) ∷ wss) = omega arith in z)

-- ---- heads

abbrev pub head : ℕ → Section → Name → ℕ → Line
head n t w size = record { number = n; kind = Head t; fields = w ∷ []; size = size }

pub rows_head : (n : ℕ) (more : List ℕ) → lines_from n (pieces (codes "ROWS\n" ++ more)) ≡ head n Rows (codes "ROWS") 5 ∷ lines_from (n + 1) (pieces more)
unfolding section_named is_left_out
rows_head n more = refl

pub columns_head : (n : ℕ) (more : List ℕ) → lines_from n (pieces (codes "COLUMNS\n" ++ more)) ≡ head n Columns (codes "COLUMNS") 8 ∷ lines_from (n + 1) (pieces more)
unfolding section_named is_left_out
columns_head n more = refl

pub rights_head : (n : ℕ) (more : List ℕ) → lines_from n (pieces (codes "RHS\n" ++ more)) ≡ head n Rhs (codes "RHS") 4 ∷ lines_from (n + 1) (pieces more)
unfolding section_named is_left_out
rights_head n more = refl

pub bounds_head : (n : ℕ) (more : List ℕ) → lines_from n (pieces (codes "BOUNDS\n" ++ more)) ≡ head n Bounds (codes "BOUNDS") 7 ∷ lines_from (n + 1) (pieces more)
unfolding section_named is_left_out
bounds_head n more = refl

pub pairs_head : (n : ℕ) (more : List ℕ) → lines_from n (pieces (codes "PAIRS\n" ++ more)) ≡ head n Pairs (codes "PAIRS") 6 ∷ lines_from (n + 1) (pieces more)
unfolding section_named is_left_out
pairs_head n more = refl

pub end_head : (n : ℕ) → lines_from n (pieces (codes "ENDATA\n")) ≡ head n Endata (codes "ENDATA") 7 ∷ []
unfolding section_named is_left_out
end_head n = refl

-- ---- the first line

abbrev title : Name → List ℕ
title w = codes "NAME " ++ (w ++ codes "\n")

abbrev pub title_line : Name → Line
title_line w = line_of 1 (title w)

pub title_is : (w : Name) (more : List ℕ) → ArePlain w → lines_from 1 (pieces (title w ++ more)) ≡ title_line w ∷ lines_from 2 (pieces more)
title_is w more h =
    ap (λ ps. lines_from 1 (onto_first 78 (onto_first 65 (onto_first 77 (onto_first 69 (onto_first 32 ps))))))
    (ap pieces (append_assoc w (codes "\n") more) ∙ skip_word w (codes "\n" ++ more) (codes "\n") (pieces more) h refl)

pub title_kind : (w : Name) → ArePlain w → (title_line w).kind ≡ Head NameSection
title_kind w h =
    let plain : AllByRecursion IsNoCr (codes "NAME " ++ w) =
    (λ e. omega (arith, e), (λ e. omega (arith, e), (λ e. omega (arith, e), (λ e. omega (arith, e), (λ e. omega (arith, e), no_cr w h))))) in
    ap kind_of (ap (without_end 13) (without_lf (codes "NAME " ++ w)) ∙ without_cr (codes "NAME " ++ w) plain)

-- ---- how many bytes lines have

size_onto : (n b : ℕ) (ps : List (List ℕ)) → size_of (lines_from n (onto_first b ps)) ≡ 1 + size_of (lines_from n ps)
size_onto n b [] = refl
size_onto n b (p ∷ ps) = omega arith

size_numbered : (m n : ℕ) (ps : List (List ℕ)) → size_of (lines_from m ps) ≡ size_of (lines_from n ps)
size_numbered m n [] = refl
size_numbered m n (p ∷ ps) = ap (λ k. length p + k) (size_numbered (m + 1) (n + 1) ps)

size_by : (t : Bool) (n b k : ℕ) (ps : List (List ℕ)) → size_of (lines_from n ps) ≡ k → size_of (lines_from n (cond t ((b ∷ []) ∷ ps) (onto_first b ps))) ≡ suc k
size_by true n b k ps h = omega (arith, size_numbered (n + 1) n ps, h)
size_by false n b k ps h = omega (arith, size_onto n b ps, h)

pub size_is : (n : ℕ) (bs : List ℕ) → size_of (lines_from n (pieces bs)) ≡ length bs
size_is n [] = refl
size_is n (b ∷ bs) = size_by (eqb b 10) n b (length bs) (pieces bs) (size_is n bs)
