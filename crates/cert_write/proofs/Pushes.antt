-- What is written behind what was written before.
use Rattle.std.proofs.Common.{◌≡◌, ℕ, ℤ, ◌+◌, ◌<◌, ◌≤◌, List, [], ◌∷◌, ◌++◌, length, get_or, drop, map, Result, Ok, Err, refl, sym, ap, ◌∙◌, append_assoc}
use Rattle.std.specs.Prelude.{flat_map, OnOk, codes}
use Rattle.std.specs.Fmt.{decimal}
use Rattle.std.proofs.lemmas.List.{append-nil, drop_more, drop_all}
use Rattle.std.proofs.lemmas.List.Concat.{flat_map-append}
use Rattle.nogoods.specs.declared.choice.Choice.{Choice}
use Rattle.cert_text.specs.declared.cert.Cert.{Cert}
use Rattle.cert_text.specs.declared.cert.Cert.TheVariants.{Optimal, Infeasible, Unbounded}
use Rattle.cert_text.specs.declared.cert.CertPoint.{CertPoint}
use Rattle.cert_text.specs.declared.cert.CertLine.{CertLine}
use Rattle.cert_text.specs.Spelling.{Word, colon, choice_word, term_words, hint_word, head_words, point_words, value_words, piece_words, ray_words, line_words, end_words, log_words, cert_words, line_bytes, spelling}
use Rattle.cert_write.specs.Writing.{spaced, text_line, text_lines}

pub spaced_append : (a b : List Word) → spaced (a ++ b) ≡ spaced a ++ spaced b
unfolding spaced
spaced_append a b = flat_map-append (λ (w : Word). 32 ∷ w) a b

pub spaced_nil : spaced [] ≡ []
unfolding spaced
spaced_nil = refl

pub spaced_more : (w : Word) (ws : List Word) → spaced (w ∷ ws) ≡ (32 ∷ w) ++ spaced ws
unfolding spaced
spaced_more w ws = refl

line_spaced : (w : Word) (ws : List Word) → line_bytes (w ∷ ws) ≡ w ++ spaced ws
unfolding spaced
line_spaced w [] = sym (append-nil w)
line_spaced w (v ∷ ws) = ap (λ (t : List ℕ). w ++ 32 ∷ t) (line_spaced v ws)

pub line_is : (w : Word) (ws : List Word) → (w ++ spaced ws) ++ 10 ∷ [] ≡ text_line (w ∷ ws)
unfolding text_line
line_is w ws = sym (ap (λ (t : List ℕ). t ++ 10 ∷ []) (line_spaced w ws))

pub lines_more : (l : List Word) (ls : List (List Word)) → text_lines (l ∷ ls) ≡ text_line l ++ text_lines ls
unfolding text_lines text_line
lines_more l ls = refl

pub lines_nil : text_lines [] ≡ []
unfolding text_lines
lines_nil = refl

-- ---- loops: the rest of a list is written behind what stands there

pub pushes : {X : Type 0} (whole : List X → List ℕ) (one : X → List ℕ) → ((x : X) (xs : List X) → whole (x ∷ xs) ≡ one x ++ whole xs)
    → (out now all : List ℕ) (i : ℕ) (xs : List X) (d : X) → i < length xs → now ≡ out ++ one (get_or xs i d) → out ++ whole (drop i xs) ≡ all → now ++ whole (drop (i + 1) xs) ≡ all
pushes whole one more out now all i xs d h e so_far =
    ap (λ (t : List ℕ). t ++ whole (drop (i + 1) xs)) e ∙ append_assoc out (one (get_or xs i d)) (whole (drop (i + 1) xs))
    ∙ ap (λ (t : List ℕ). out ++ t) (sym (ap whole (drop_more xs i d h) ∙ more (get_or xs i d) (drop (i + 1) xs))) ∙ so_far

pub pushed : {X : Type 0} (whole : List X → List ℕ) → whole [] ≡ [] → (out all : List ℕ) (i : ℕ) (xs : List X) → length xs ≤ i → out ++ whole (drop i xs) ≡ all → out ≡ all
pushed whole nil out all i xs h so_far = sym (append-nil out) ∙ ap (λ (t : List ℕ). out ++ t) (sym (ap whole (drop_all i xs h) ∙ nil)) ∙ so_far

abbrev pub choices_text : List Choice → List ℕ
choices_text cs = spaced (map choice_word cs)

pub choices_more : (c : Choice) (cs : List Choice) → choices_text (c ∷ cs) ≡ (32 ∷ choice_word c) ++ choices_text cs
choices_more c cs = spaced_more (choice_word c) (map choice_word cs)

abbrev pub hints_text : List ℕ → List ℕ
hints_text hs = spaced (map hint_word hs)

pub hints_more : (h : ℕ) (hs : List ℕ) → hints_text (h ∷ hs) ≡ (32 ∷ hint_word h) ++ hints_text hs
hints_more h hs = spaced_more (hint_word h) (map hint_word hs)

abbrev pub terms_text : List (ℕ × ℤ) → List ℕ
terms_text ts = spaced (flat_map term_words ts)

pub terms_more : (t : ℕ × ℤ) (ts : List (ℕ × ℤ)) → terms_text (t ∷ ts) ≡ spaced (term_words t) ++ terms_text ts
terms_more t ts = spaced_append (term_words t) (flat_map term_words ts)

abbrev pub log_text : List CertLine → List ℕ
log_text xs = text_lines (map line_words xs)

pub log_more : (x : CertLine) (xs : List CertLine) → log_text (x ∷ xs) ≡ text_line (line_words x) ++ log_text xs
log_more x xs = lines_more (line_words x) (map line_words xs)

-- ---- pieces that are written one behind another

pub on_ok : {T E : Type 0} (r : Result T E) (P Q : Type 0) → (P → Q) → OnOk r P → OnOk r Q
on_ok (Ok x) P Q f p = f p
on_ok (Err e) P Q f p = tt

pub two : (o x y a b all : List ℕ) → x ≡ o ++ a → a ++ b ≡ all → y ≡ x ++ b → y ≡ o ++ all
two o x y a b all ex w ey = ey ∙ ap (λ (t : List ℕ). t ++ b) ex ∙ append_assoc o a b ∙ ap (λ (t : List ℕ). o ++ t) w

pub three : (o x y z a b c all : List ℕ) → x ≡ o ++ a → y ≡ x ++ b → (a ++ b) ++ c ≡ all → z ≡ y ++ c → z ≡ o ++ all
three o x y z a b c all ex ey w ez = two o y z (a ++ b) c all (two o x y a b (a ++ b) ex refl ey) w ez

pub four : (o x y z u a b c d all : List ℕ) → x ≡ o ++ a → y ≡ x ++ b → z ≡ y ++ c → ((a ++ b) ++ c) ++ d ≡ all → u ≡ z ++ d → u ≡ o ++ all
four o x y z u a b c d all ex ey ez w eu = two o z u ((a ++ b) ++ c) d all (three o x y z a b c ((a ++ b) ++ c) ex ey refl ez) w eu

pub five : (o x y z u v a b c d e all : List ℕ) → x ≡ o ++ a → y ≡ x ++ b → z ≡ y ++ c → u ≡ z ++ d → (((a ++ b) ++ c) ++ d) ++ e ≡ all → v ≡ u ++ e → v ≡ o ++ all
five o x y z u v a b c d e all ex ey ez eu w ev = two o u v (((a ++ b) ++ c) ++ d) e all (four o x y z u a b c d (((a ++ b) ++ c) ++ d) ex ey ez refl eu) w ev

pub front_is : (kind : Word) (ng : List Choice) → (kind ++ choices_text ng) ++ codes " :" ≡ kind ++ spaced (map choice_word ng ++ colon ∷ [])
unfolding spaced
front_is kind ng = append_assoc kind (choices_text ng) (codes " :") ∙ ap (λ (t : List ℕ). kind ++ t) (sym (spaced_append (map choice_word ng) (colon ∷ [])))

-- a first word, words, and words up to the end of the line
pub cut_is : (w : Word) (front behind : List Word) → (w ++ spaced front) ++ (spaced behind ++ 10 ∷ []) ≡ text_line (w ∷ front ++ behind)
cut_is w front behind =
    sym (append_assoc (w ++ spaced front) (spaced behind) (10 ∷ []))
    ∙ ap (λ (t : List ℕ). t ++ 10 ∷ []) (append_assoc w (spaced front) (spaced behind) ∙ ap (λ (t : List ℕ). w ++ t) (sym (spaced_append front behind)))
    ∙ line_is w (front ++ behind)

pub ray_cut_is : (w : Word) (front : List Word) (behind : List Word) → (w ++ spaced (front ++ colon ∷ [])) ++ (spaced behind ++ 10 ∷ []) ≡ text_line (w ∷ front ++ colon ∷ behind)
ray_cut_is w front behind = cut_is w (front ++ colon ∷ []) behind ∙ ap (λ (ws : List Word). text_line (w ∷ ws)) (append_assoc front (colon ∷ []) behind)

bound_is : (bound : Word) (behind : List Word) → (codes " " ++ (bound ++ spaced (colon ∷ []))) ++ (spaced behind ++ 10 ∷ []) ≡ spaced (bound ∷ colon ∷ behind) ++ 10 ∷ []
unfolding spaced
bound_is bound behind = ap (λ (t : List ℕ). 32 ∷ t) (append_assoc bound (32 ∷ 58 ∷ []) (spaced behind ++ 10 ∷ []) ∙ sym (append_assoc bound (32 ∷ 58 ∷ spaced behind) (10 ∷ [])))

pub point_cut_is : (w : Word) (front : List Word) (bound : Word) (behind : List Word)
    → (((w ++ spaced (front ++ colon ∷ [])) ++ codes " ") ++ (bound ++ spaced (colon ∷ []))) ++ (spaced behind ++ 10 ∷ []) ≡ text_line (w ∷ front ++ colon ∷ bound ∷ colon ∷ behind)
point_cut_is w front bound behind =
    let a = w ++ spaced (front ++ colon ∷ []) in
    let b = bound ++ spaced (colon ∷ []) in
    ap (λ (t : List ℕ). t ++ (spaced behind ++ 10 ∷ [])) (append_assoc a (codes " ") b) ∙ append_assoc a (codes " " ++ b) (spaced behind ++ 10 ∷ [])
    ∙ ap (λ (t : List ℕ). a ++ t) (bound_is bound behind) ∙ ray_cut_is w front (bound ∷ colon ∷ behind)

pub derived_is : (w : Word) (front : List Word) (behind : List Word) → ((w ++ spaced (front ++ colon ∷ [])) ++ spaced behind) ++ 10 ∷ [] ≡ text_line (w ∷ front ++ colon ∷ behind)
derived_is w front behind = append_assoc (w ++ spaced (front ++ colon ∷ [])) (spaced behind) (10 ∷ []) ∙ ray_cut_is w front behind

pub point_is : (bound : Word) (behind : List Word) → (codes "point " ++ (bound ++ spaced (colon ∷ []))) ++ (spaced behind ++ 10 ∷ []) ≡ text_line (codes "point" ∷ bound ∷ colon ∷ behind)
unfolding spaced
point_is bound behind =
    append_assoc (codes "point") (codes " " ++ (bound ++ spaced (colon ∷ []))) (spaced behind ++ 10 ∷ []) ∙ ap (λ (t : List ℕ). codes "point" ++ t) (bound_is bound behind)
    ∙ sym (append_assoc (codes "point") (spaced (bound ∷ colon ∷ behind)) (10 ∷ [])) ∙ line_is (codes "point") (bound ∷ colon ∷ behind)

pub ray_is : (behind : List Word) → codes "ray :" ++ (spaced behind ++ 10 ∷ []) ≡ text_line (codes "ray" ∷ colon ∷ behind)
unfolding spaced
ray_is behind = cut_is (codes "ray") (colon ∷ []) behind

pub kind_is : (kind : Word) → (codes "lpcc-certificate 1\n" ++ kind) ++ 10 ∷ [] ≡ text_lines (head_words ∷ (kind ∷ []) ∷ [])
unfolding text_lines
kind_is kind = ap (λ (t : List ℕ). codes "lpcc-certificate 1\n" ++ t) (sym (append-nil (kind ++ 10 ∷ [])))

pub lines_append : (a b : List (List Word)) → text_lines (a ++ b) ≡ text_lines a ++ text_lines b
lines_append [] b = ap (λ (t : List ℕ). t ++ text_lines b) (sym lines_nil)
lines_append (l ∷ a) b =
    lines_more l (a ++ b) ∙ ap (λ (t : List ℕ). text_line l ++ t) (lines_append a b) ∙ sym (append_assoc (text_line l) (text_lines a) (text_lines b))
    ∙ ap (λ (t : List ℕ). t ++ text_lines b) (sym (lines_more l a))

pub lines_push : (a : List (List Word)) (l : List Word) → text_lines a ++ text_line l ≡ text_lines (a ++ l ∷ [])
lines_push a l = sym (lines_append a (l ∷ []) ∙ ap (λ (t : List ℕ). text_lines a ++ t) (lines_more l [] ∙ ap (λ (t : List ℕ). text_line l ++ t) lines_nil ∙ append-nil (text_line l)))

pub log_is : (xs : List CertLine) → log_text xs ++ text_line (codes "end" ∷ decimal (length xs) ∷ []) ≡ text_lines (log_words xs)
log_is xs = lines_push (map line_words xs) (end_words xs)

as_spelling : (c : Cert) → text_lines (cert_words c) ≡ spelling c
unfolding text_lines
as_spelling c = refl

abbrev kind_lines : Word → List (List Word)
kind_lines kind = head_words ∷ (kind ∷ []) ∷ []

pub infeasible_is : (xs : List CertLine) → text_lines (kind_lines (codes "infeasible")) ++ text_lines (log_words xs) ≡ spelling (Infeasible xs)
infeasible_is xs = sym (lines_append (kind_lines (codes "infeasible")) (log_words xs)) ∙ as_spelling (Infeasible xs)

pub optimal_is : (p : CertPoint) (z : ℤ) (xs : List CertLine)
    → ((text_lines (kind_lines (codes "optimal")) ++ text_line (point_words p)) ++ text_line (value_words z)) ++ text_lines (log_words xs) ≡ spelling (Optimal p z xs)
optimal_is p z xs =
    let k = kind_lines (codes "optimal") in
    ap (λ (t : List ℕ). t ++ text_lines (log_words xs)) (ap (λ (t : List ℕ). t ++ text_line (value_words z)) (lines_push k (point_words p)) ∙ lines_push (k ++ point_words p ∷ []) (value_words z))
    ∙ sym (lines_append ((k ++ point_words p ∷ []) ++ value_words z ∷ []) (log_words xs)) ∙ as_spelling (Optimal p z xs)

pub unbounded_is : (ng : List Choice) (p : CertPoint) (ray : List (ℕ × ℤ))
    → (((text_lines (kind_lines (codes "unbounded")) ++ text_line (piece_words ng)) ++ text_line (point_words p)) ++ text_line (ray_words ray)) ++ text_line (codes "end" ∷ decimal 0 ∷ []) ≡ spelling (Unbounded ng p ray)
unbounded_is ng p ray =
    let k = kind_lines (codes "unbounded") in
    let a = k ++ piece_words ng ∷ [] in
    let b = a ++ point_words p ∷ [] in
    let c = b ++ ray_words ray ∷ [] in
    ap (λ (t : List ℕ). t ++ text_line (end_words []))
    (ap (λ (t : List ℕ). t ++ text_line (ray_words ray)) (ap (λ (t : List ℕ). t ++ text_line (point_words p)) (lines_push k (piece_words ng)) ∙ lines_push a (point_words p)) ∙ lines_push b (ray_words ray))
    ∙ lines_push c (end_words []) ∙ as_spelling (Unbounded ng p ray)
