-- No word of a certificate has a space or LF, and no line of it begins with `*`.
use Rattle.std.proofs.Common.{◌≡◌, ℕ, ◌+◌, ◌<◌, true, false, ltb, eqb, List, [], ◌∷◌, ◌++◌, length, get_or, map, refl, ℤ}
use Rattle.std.specs.Prelude.{All, flat_map, codes}
use Rattle.std.specs.Fmt.{decimal, signed_decimal}
use Rattle.std.specs.List.{list_all}
use Rattle.std.proofs.lemmas.Bool.{ltb-true, and_parts}
use Rattle.std.proofs.lemmas.List.Elements.{All-nil, All-cons, All-append, All-map}
use Rattle.nogoods.specs.declared.choice.Choice.{Choice}
use Rattle.nogoods.specs.declared.choice.Side.{Side}
use Rattle.nogoods.specs.declared.choice.Side.TheVariants.{A, B}
use Rattle.cert_text.specs.declared.cert.Cert.{Cert}
use Rattle.cert_text.specs.declared.cert.Cert.TheVariants.{Optimal, Infeasible, Unbounded}
use Rattle.cert_text.specs.declared.cert.CertPoint.{CertPoint}
use Rattle.cert_text.specs.declared.cert.CertLine.{CertLine}
use Rattle.cert_text.specs.declared.cert.CertLine.TheVariants.{Ray, Point, Derived}
use Rattle.cert_text.specs.Spelling.{Word, side_letter, choice_word, term_words, hint_word, colon, head_words, point_words, value_words, piece_words, ray_words, line_words, end_words, log_words, cert_words, line_bytes}
use Rattle.cert_text.specs.Lines.{is_comment}
use Rattle.cert_text.proofs.Numbers.{IsPlain, plain_decimal, plain_signed}

pub plain_by_test : (w : Word) → list_all (λ b. ltb 32 b) w ≡ true → IsPlain w
plain_by_test [] e = All-nil (λ b. 32 < b)
plain_by_test (b ∷ w) e = let p = and_parts (ltb 32 b) (list_all (λ c. ltb 32 c) w) e in All-cons (λ c. 32 < c) b w (ltb-true 32 b p.0) (plain_by_test w p.1)

plain_letter : (s : Side) → IsPlain (side_letter s)
plain_letter A = plain_by_test (codes "a") refl
plain_letter B = plain_by_test (codes "b") refl

plain_choice : (c : Choice) → IsPlain (choice_word c)
plain_choice c = All-append (λ b. 32 < b) (decimal (c.pair + 1)) (side_letter c.side) (plain_decimal (c.pair + 1)) (plain_letter c.side)

plain_choices : (cs : List Choice) → All IsPlain (map choice_word cs)
plain_choices cs = All-map IsPlain choice_word cs (λ i d lt. plain_choice (get_or cs i d))

pub plain_terms : (ts : List (ℕ × ℤ)) → All IsPlain (flat_map term_words ts)
plain_terms [] = All-nil IsPlain
plain_terms (t ∷ ts) =
    All-cons IsPlain (decimal (t.0 + 1)) (signed_decimal t.1 ∷ flat_map term_words ts) (plain_decimal (t.0 + 1))
    (All-cons IsPlain (signed_decimal t.1) (flat_map term_words ts) (plain_signed t.1) (plain_terms ts))

pub plain_colon : (ws : List Word) → All IsPlain ws → All IsPlain (colon ∷ ws)
plain_colon ws h = All-cons IsPlain colon ws (plain_by_test colon refl) h

plain_bound : (z : ℤ) (ts : List (ℕ × ℤ)) → All IsPlain (signed_decimal z ∷ colon ∷ flat_map term_words ts)
plain_bound z ts = All-cons IsPlain (signed_decimal z) (colon ∷ flat_map term_words ts) (plain_signed z) (plain_colon (flat_map term_words ts) (plain_terms ts))

pub plain_front : (kind : Word) (ng : List Choice) (ws : List Word) → IsPlain kind → All IsPlain ws → All IsPlain (kind ∷ map choice_word ng ++ colon ∷ ws)
plain_front kind ng ws k h = All-cons IsPlain kind (map choice_word ng ++ colon ∷ ws) k (All-append IsPlain (map choice_word ng) (colon ∷ ws) (plain_choices ng) (plain_colon ws h))

abbrev pub ArePlain : List Word → Type 0
ArePlain ws = All IsPlain ws

pub plain_line : (x : CertLine) → ArePlain (line_words x)
plain_line (Ray ng mult) = plain_front (codes "i") ng (flat_map term_words mult) (plain_by_test (codes "i") refl) (plain_terms mult)
plain_line (Point ng e mult) = plain_front (codes "p") ng (signed_decimal e ∷ colon ∷ flat_map term_words mult) (plain_by_test (codes "p") refl) (plain_bound e mult)
plain_line (Derived ng hints) = plain_front (codes "d") ng (map hint_word hints) (plain_by_test (codes "d") refl) (All-map IsPlain hint_word hints (λ i d lt. plain_decimal (get_or hints i d + 1)))

pub plain_end : (n : ℕ) → ArePlain (codes "end" ∷ decimal n ∷ [])
plain_end n = All-cons IsPlain (codes "end") (decimal n ∷ []) (plain_by_test (codes "end") refl) (All-cons IsPlain (decimal n) [] (plain_decimal n) (All-nil IsPlain))

pub plain_point : (p : CertPoint) → ArePlain (point_words p)
plain_point p = All-cons IsPlain (codes "point") (signed_decimal p.d ∷ colon ∷ flat_map term_words p.terms) (plain_by_test (codes "point") refl) (plain_bound p.d p.terms)

pub plain_value : (z : ℤ) → ArePlain (value_words z)
plain_value z = All-cons IsPlain (codes "value") (signed_decimal z ∷ []) (plain_by_test (codes "value") refl) (All-cons IsPlain (signed_decimal z) [] (plain_signed z) (All-nil IsPlain))

pub plain_piece : (cs : List Choice) → ArePlain (piece_words cs)
plain_piece cs = All-cons IsPlain (codes "piece") (map choice_word cs) (plain_by_test (codes "piece") refl) (plain_choices cs)

pub plain_ray : (ts : List (ℕ × ℤ)) → ArePlain (ray_words ts)
plain_ray ts = All-cons IsPlain (codes "ray") (colon ∷ flat_map term_words ts) (plain_by_test (codes "ray") refl) (plain_colon (flat_map term_words ts) (plain_terms ts))

pub plain_one : (w : Word) → IsPlain w → ArePlain (w ∷ [])
plain_one w h = All-cons IsPlain w [] h (All-nil IsPlain)

plain_head : ArePlain head_words
plain_head = All-cons IsPlain (codes "lpcc-certificate") (codes "1" ∷ []) (plain_by_test (codes "lpcc-certificate") refl) (plain_one (codes "1") (plain_by_test (codes "1") refl))

-- ---- lines

pub begins : (b : ℕ) (w : Word) (ws : List Word) → is_comment (line_bytes ((b ∷ w) ∷ ws)) ≡ eqb b 42
begins b w [] = refl
begins b w (v ∷ ws) = refl

-- words that make a content line
abbrev pub IsGood : List Word → Type 0
IsGood ws = ArePlain ws × (is_comment (line_bytes ws) ≡ false)

good_line : (x : CertLine) → IsGood (line_words x)
good_line (Ray ng mult) = (plain_line (Ray ng mult), begins 105 [] (map choice_word ng ++ colon ∷ flat_map term_words mult))
good_line (Point ng e mult) = (plain_line (Point ng e mult), begins 112 [] (map choice_word ng ++ colon ∷ signed_decimal e ∷ colon ∷ flat_map term_words mult))
good_line (Derived ng hints) = (plain_line (Derived ng hints), begins 100 [] (map choice_word ng ++ colon ∷ map hint_word hints))

good_log : (xs : List CertLine) → All IsGood (log_words xs)
good_log xs =
    All-append IsGood (map line_words xs) (end_words xs ∷ []) (All-map IsGood line_words xs (λ i d lt. good_line (get_or xs i d)))
    (All-cons IsGood (end_words xs) [] (plain_end (length xs), begins 101 (codes "nd") (decimal (length xs) ∷ [])) (All-nil IsGood))

good_front : (kind : Word) (ls : List (List Word)) → IsGood (kind ∷ []) → All IsGood ls → All IsGood (head_words ∷ (kind ∷ []) ∷ ls)
good_front kind ls k h = All-cons IsGood head_words ((kind ∷ []) ∷ ls) (plain_head, refl) (All-cons IsGood (kind ∷ []) ls k h)

pub good_point : (p : CertPoint) → IsGood (point_words p)
good_point p = (plain_point p, begins 112 (codes "oint") (signed_decimal p.d ∷ colon ∷ flat_map term_words p.terms))

pub good_cert : (c : Cert) → All IsGood (cert_words c)
good_cert (Optimal p z xs) =
    good_front (codes "optimal") (point_words p ∷ value_words z ∷ log_words xs) (plain_one (codes "optimal") (plain_by_test (codes "optimal") refl), refl)
    (All-cons IsGood (point_words p) (value_words z ∷ log_words xs) (good_point p)
    (All-cons IsGood (value_words z) (log_words xs) (plain_value z, begins 118 (codes "alue") (signed_decimal z ∷ [])) (good_log xs)))
good_cert (Infeasible xs) = good_front (codes "infeasible") (log_words xs) (plain_one (codes "infeasible") (plain_by_test (codes "infeasible") refl), refl) (good_log xs)
good_cert (Unbounded ng p ray) =
    good_front (codes "unbounded") (piece_words ng ∷ point_words p ∷ ray_words ray ∷ log_words []) (plain_one (codes "unbounded") (plain_by_test (codes "unbounded") refl), refl)
    (All-cons IsGood (piece_words ng) (point_words p ∷ ray_words ray ∷ log_words []) (plain_piece ng, begins 112 (codes "iece") (map choice_word ng))
    (All-cons IsGood (point_words p) (ray_words ray ∷ log_words []) (good_point p)
    (All-cons IsGood (ray_words ray) (log_words []) (plain_ray ray, begins 114 (codes "ay") (colon ∷ flat_map term_words ray)) (good_log []))))
