-- What is written of form 2 behind what was written before.
use Rattle.std.proofs.Common.{◌≡◌, ℕ, ℤ, ◌+◌, ◌<◌, ◌≤◌, List, [], ◌∷◌, ◌++◌, length, get_or, take, map, Option, refl, sym, ap, ◌∙◌, append_assoc, arith}
use Rattle.std.specs.Prelude.{flat_map, codes}
use Rattle.std.specs.Fmt.{decimal, signed_decimal}
use Rattle.std.proofs.lemmas.List.{append-nil, take_more, take_all}
use Rattle.nogoods.specs.declared.choice.Choice.{Choice}
use Rattle.cert_text.specs.declared.cert.CertPoint.{CertPoint}
use Rattle.cert_text.specs.Spelling.{Word, colon, choice_word, term_words, hint_word, point_words, value_words, piece_words, ray_words}
use Rattle.cert_write.specs.Writing.{spaced, text_line, text_lines}
use Rattle.cert_write.proofs.Pushes.{spaced_append, line_is, cut_is, ray_cut_is, point_cut_is, lines_more, lines_append, lines_push}
use Rattle.cert2_text.specs.declared.cert2.Cert2.{Cert2}
use Rattle.cert2_text.specs.declared.cert2.Cert2.TheVariants.{Optimal, Infeasible, Unbounded}
use Rattle.cert2_text.specs.declared.cert2.Cert2Line.{Cert2Line}
use Rattle.cert2_text.specs.Certs2.{counted, count_of}
use Rattle.cert2_text.specs.Spelling2.{head2_words, list_words, line2_words, end2_words, log2_words, cert2_words, spelling2}

abbrev pub log_text : List Cert2Line → List ℕ
log_text xs = text_lines (map line2_words xs)

pub log_more : (x : Cert2Line) (xs : List Cert2Line) → log_text (x ∷ xs) ≡ text_line (line2_words x) ++ log_text xs
log_more x xs = lines_more (line2_words x) (map line2_words xs)

-- the list, and the line's own terms
abbrev mult_words : Option ℕ → List (ℕ × ℤ) → List Word
mult_words list terms = list_words list ++ flat_map term_words terms

mult_is : (list : Option ℕ) (terms : List (ℕ × ℤ)) → spaced (list_words list) ++ (spaced (flat_map term_words terms) ++ 10 ∷ []) ≡ spaced (mult_words list terms) ++ 10 ∷ []
mult_is list terms =
    sym (append_assoc (spaced (list_words list)) (spaced (flat_map term_words terms)) (10 ∷ [])) ∙ ap (λ (t : List ℕ). t ++ 10 ∷ []) (sym (spaced_append (list_words list) (flat_map term_words terms)))

pub shared_is : (terms : List (ℕ × ℤ)) → codes "m :" ++ (spaced (flat_map term_words terms) ++ 10 ∷ []) ≡ text_line (codes "m" ∷ colon ∷ flat_map term_words terms)
unfolding spaced
shared_is terms = cut_is (codes "m") (colon ∷ []) (flat_map term_words terms)

pub ray_is : (front : List Word) (list : Option ℕ) (terms : List (ℕ × ℤ))
    → ((codes "i" ++ spaced (front ++ colon ∷ [])) ++ spaced (list_words list)) ++ (spaced (flat_map term_words terms) ++ 10 ∷ []) ≡ text_line (codes "i" ∷ front ++ colon ∷ mult_words list terms)
ray_is front list terms =
    let a = codes "i" ++ spaced (front ++ colon ∷ []) in
    append_assoc a (spaced (list_words list)) (spaced (flat_map term_words terms) ++ 10 ∷ []) ∙ ap (λ (t : List ℕ). a ++ t) (mult_is list terms) ∙ ray_cut_is (codes "i") front (mult_words list terms)

pub point_is : (front : List Word) (bound : Word) (list : Option ℕ) (terms : List (ℕ × ℤ))
    → ((((codes "p" ++ spaced (front ++ colon ∷ [])) ++ codes " ") ++ (bound ++ spaced (colon ∷ []))) ++ spaced (list_words list)) ++ (spaced (flat_map term_words terms) ++ 10 ∷ [])
    ≡ text_line (codes "p" ∷ front ++ colon ∷ bound ∷ colon ∷ mult_words list terms)
point_is front bound list terms =
    let a = ((codes "p" ++ spaced (front ++ colon ∷ [])) ++ codes " ") ++ (bound ++ spaced (colon ∷ [])) in
    append_assoc a (spaced (list_words list)) (spaced (flat_map term_words terms) ++ 10 ∷ []) ∙ ap (λ (t : List ℕ). a ++ t) (mult_is list terms) ∙ point_cut_is (codes "p") front bound (mult_words list terms)

pub forget_is : (lines : List ℕ) → (codes "x" ++ spaced (map hint_word lines)) ++ 10 ∷ [] ≡ text_line (codes "x" ∷ map hint_word lines)
forget_is lines = line_is (codes "x") (map hint_word lines)

pub kind_is : (kind : Word) → (codes "lpcc-certificate 2\n" ++ kind) ++ 10 ∷ [] ≡ text_lines (head2_words ∷ (kind ∷ []) ∷ [])
unfolding text_lines
kind_is kind = ap (λ (t : List ℕ). codes "lpcc-certificate 2\n" ++ t) (sym (append-nil (kind ++ 10 ∷ [])))

pub log_is : (xs : List Cert2Line) → log_text xs ++ text_line (end2_words xs) ≡ text_lines (log2_words xs)
log_is xs = lines_push (map line2_words xs) (end2_words xs)

as_spelling : (c : Cert2) → text_lines (cert2_words c) ≡ spelling2 c
unfolding text_lines
as_spelling c = refl

abbrev kind_lines : Word → List (List Word)
kind_lines kind = head2_words ∷ (kind ∷ []) ∷ []

pub infeasible_is : (xs : List Cert2Line) → text_lines (kind_lines (codes "infeasible")) ++ text_lines (log2_words xs) ≡ spelling2 (Infeasible xs)
infeasible_is xs = sym (lines_append (kind_lines (codes "infeasible")) (log2_words xs)) ∙ as_spelling (Infeasible xs)

pub optimal_is : (p : CertPoint) (z : ℤ) (xs : List Cert2Line)
    → ((text_lines (kind_lines (codes "optimal")) ++ text_line (point_words p)) ++ text_line (value_words z)) ++ text_lines (log2_words xs) ≡ spelling2 (Optimal p z xs)
optimal_is p z xs =
    let k = kind_lines (codes "optimal") in
    ap (λ (t : List ℕ). t ++ text_lines (log2_words xs)) (ap (λ (t : List ℕ). t ++ text_line (value_words z)) (lines_push k (point_words p)) ∙ lines_push (k ++ point_words p ∷ []) (value_words z))
    ∙ sym (lines_append ((k ++ point_words p ∷ []) ++ value_words z ∷ []) (log2_words xs)) ∙ as_spelling (Optimal p z xs)

pub unbounded_is : (ng : List Choice) (p : CertPoint) (ray : List (ℕ × ℤ))
    → (((text_lines (kind_lines (codes "unbounded")) ++ text_line (piece_words ng)) ++ text_line (point_words p)) ++ text_line (ray_words ray)) ++ text_line (codes "end" ∷ decimal 0 ∷ []) ≡ spelling2 (Unbounded ng p ray)
unbounded_is ng p ray =
    let k = kind_lines (codes "unbounded") in
    let a = k ++ piece_words ng ∷ [] in
    let b = a ++ point_words p ∷ [] in
    let c = b ++ ray_words ray ∷ [] in
    ap (λ (t : List ℕ). t ++ text_line (end2_words []))
    (ap (λ (t : List ℕ). t ++ text_line (ray_words ray)) (ap (λ (t : List ℕ). t ++ text_line (point_words p)) (lines_push k (piece_words ng)) ∙ lines_push a (point_words p)) ∙ lines_push b (ray_words ray))
    ∙ lines_push c (end2_words []) ∙ as_spelling (Unbounded ng p ray)

-- ---- how many no-good lines there are, one line more

count_push : (ys : List Cert2Line) (y : Cert2Line) → count_of (ys ++ y ∷ []) ≡ count_of ys + counted y
count_push [] y = omega arith
count_push (z ∷ ys) y = omega (arith, count_push ys y)

pub count_more : (n : ℕ) (xs : List Cert2Line) (i : ℕ) (d : Cert2Line) → i < length xs → n ≡ count_of (take i xs) → n + counted (get_or xs i d) ≡ count_of (take (i + 1) xs)
count_more n xs i d h e = ap (λ (m : ℕ). m + counted (get_or xs i d)) e ∙ sym (ap count_of (take_more xs i d h) ∙ count_push (take i xs) (get_or xs i d))

pub count_all : (n : ℕ) (xs : List Cert2Line) (i : ℕ) → length xs ≤ i → n ≡ count_of (take i xs) → n ≡ count_of xs
count_all n xs i h e = e ∙ ap count_of (take_all i xs h)
