-- No word of a certificate of form 2 has a space or LF, and no line of it begins with `*`.
use Rattle.std.proofs.Common.{ℕ, ◌+◌, ◌<◌, List, [], ◌∷◌, ◌++◌, get_or, map, Option, Some, None, refl, lit<, ℤ}
use Rattle.std.specs.Prelude.{All, flat_map, codes}
use Rattle.std.specs.Fmt.{decimal, signed_decimal}
use Rattle.std.proofs.lemmas.List.Elements.{All-nil, All-cons, All-append, All-map}
use Rattle.cert_text.specs.Spelling.{choice_word, term_words, hint_word, colon, point_words, value_words, piece_words, ray_words}
use Rattle.cert_text.proofs.Numbers.{IsPlain, plain_decimal, plain_signed}
use Rattle.cert_text.proofs.Plain.{plain_by_test, plain_terms, plain_colon, plain_front, plain_one, plain_end, plain_value, plain_piece, plain_ray, ArePlain, IsGood, begins, good_point}
use Rattle.cert2_text.specs.declared.cert2.Cert2.{Cert2}
use Rattle.cert2_text.specs.declared.cert2.Cert2.TheVariants.{Optimal, Infeasible, Unbounded}
use Rattle.cert2_text.specs.declared.cert2.Cert2Line.{Cert2Line}
use Rattle.cert2_text.specs.declared.cert2.Cert2Line.TheVariants.{Shared, Ray, Point, Derived, Forget}
use Rattle.cert2_text.specs.Certs2.{count_of}
use Rattle.cert2_text.specs.Spelling2.{head2_words, list_words, line2_words, end2_words, log2_words, cert2_words}

plain_list : (list : Option ℕ) → ArePlain (list_words list)
plain_list None = All-nil IsPlain
plain_list (Some h) = plain_one (64 ∷ decimal (h + 1)) (All-cons (λ b. 32 < b) 64 (decimal (h + 1)) (lit< tt) (plain_decimal (h + 1)))

plain_mult : (list : Option ℕ) (mult : List (ℕ × ℤ)) → ArePlain (list_words list ++ flat_map term_words mult)
plain_mult list mult = All-append IsPlain (list_words list) (flat_map term_words mult) (plain_list list) (plain_terms mult)

plain_hints : (hs : List ℕ) → ArePlain (map hint_word hs)
plain_hints hs = All-map IsPlain hint_word hs (λ i d lt. plain_decimal (get_or hs i d + 1))

pub plain_line2 : (x : Cert2Line) → ArePlain (line2_words x)
plain_line2 (Shared mult) = All-cons IsPlain (codes "m") (colon ∷ flat_map term_words mult) (plain_by_test (codes "m") refl) (plain_colon (flat_map term_words mult) (plain_terms mult))
plain_line2 (Ray ng list mult) = plain_front (codes "i") ng (list_words list ++ flat_map term_words mult) (plain_by_test (codes "i") refl) (plain_mult list mult)
plain_line2 (Point ng e list mult) =
    plain_front (codes "p") ng (signed_decimal e ∷ colon ∷ (list_words list ++ flat_map term_words mult)) (plain_by_test (codes "p") refl)
    (All-cons IsPlain (signed_decimal e) (colon ∷ (list_words list ++ flat_map term_words mult)) (plain_signed e) (plain_colon (list_words list ++ flat_map term_words mult) (plain_mult list mult)))
plain_line2 (Derived ng hints) = plain_front (codes "d") ng (map hint_word hints) (plain_by_test (codes "d") refl) (plain_hints hints)
plain_line2 (Forget lines) = All-cons IsPlain (codes "x") (map hint_word lines) (plain_by_test (codes "x") refl) (plain_hints lines)

plain_head : ArePlain head2_words
plain_head = All-cons IsPlain (codes "lpcc-certificate") (codes "2" ∷ []) (plain_by_test (codes "lpcc-certificate") refl) (plain_one (codes "2") (plain_by_test (codes "2") refl))

-- ---- lines

good_line : (x : Cert2Line) → IsGood (line2_words x)
good_line (Shared mult) = (plain_line2 (Shared mult), begins 109 [] (colon ∷ flat_map term_words mult))
good_line (Ray ng list mult) = (plain_line2 (Ray ng list mult), begins 105 [] (map choice_word ng ++ colon ∷ (list_words list ++ flat_map term_words mult)))
good_line (Point ng e list mult) = (plain_line2 (Point ng e list mult), begins 112 [] (map choice_word ng ++ colon ∷ signed_decimal e ∷ colon ∷ (list_words list ++ flat_map term_words mult)))
good_line (Derived ng hints) = (plain_line2 (Derived ng hints), begins 100 [] (map choice_word ng ++ colon ∷ map hint_word hints))
good_line (Forget lines) = (plain_line2 (Forget lines), begins 120 [] (map hint_word lines))

good_log : (xs : List Cert2Line) → All IsGood (log2_words xs)
good_log xs =
    All-append IsGood (map line2_words xs) (end2_words xs ∷ []) (All-map IsGood line2_words xs (λ i d lt. good_line (get_or xs i d)))
    (All-cons IsGood (end2_words xs) [] (plain_end (count_of xs), begins 101 (codes "nd") (decimal (count_of xs) ∷ [])) (All-nil IsGood))

good_front : (kind : List ℕ) (ls : List (List (List ℕ))) → IsGood (kind ∷ []) → All IsGood ls → All IsGood (head2_words ∷ (kind ∷ []) ∷ ls)
good_front kind ls k h = All-cons IsGood head2_words ((kind ∷ []) ∷ ls) (plain_head, refl) (All-cons IsGood (kind ∷ []) ls k h)

pub good_cert2 : (c : Cert2) → All IsGood (cert2_words c)
good_cert2 (Optimal p z xs) =
    good_front (codes "optimal") (point_words p ∷ value_words z ∷ log2_words xs) (plain_one (codes "optimal") (plain_by_test (codes "optimal") refl), refl)
    (All-cons IsGood (point_words p) (value_words z ∷ log2_words xs) (good_point p)
    (All-cons IsGood (value_words z) (log2_words xs) (plain_value z, begins 118 (codes "alue") (signed_decimal z ∷ [])) (good_log xs)))
good_cert2 (Infeasible xs) = good_front (codes "infeasible") (log2_words xs) (plain_one (codes "infeasible") (plain_by_test (codes "infeasible") refl), refl) (good_log xs)
good_cert2 (Unbounded ng p ray) =
    good_front (codes "unbounded") (piece_words ng ∷ point_words p ∷ ray_words ray ∷ log2_words []) (plain_one (codes "unbounded") (plain_by_test (codes "unbounded") refl), refl)
    (All-cons IsGood (piece_words ng) (point_words p ∷ ray_words ray ∷ log2_words []) (plain_piece ng, begins 112 (codes "iece") (map choice_word ng))
    (All-cons IsGood (point_words p) (ray_words ray ∷ log2_words []) (good_point p)
    (All-cons IsGood (ray_words ray) (log2_words []) (plain_ray ray, begins 114 (codes "ay") (colon ∷ flat_map term_words ray)) (good_log []))))
