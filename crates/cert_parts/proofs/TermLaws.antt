-- The terms of numbers with one number more.
use Rattle.std.proofs.Common.{ℕ, ◌+◌, ◌<◌, ◌≡◌, refl, sym, ap, ◌∙◌, arith, ℤ, pos, Bool, true, false, List, [], ◌∷◌, ◌++◌, length, get_or, take}
use Rattle.std.specs.Prelude.{if◌then◌else◌, nat_eq, unsigned_abs}
use Rattle.std.proofs.lemmas.Bool.{eqb-true, eq-eqb}
use Rattle.std.proofs.lemmas.List.{append-nil, length-take-le, take_more}
use Rattle.cert_parts.specs.PointTerms.{terms_from, with_term}

terms_both : (b : Bool) (i : ℕ) (z : ℤ) (terms more : List (ℕ × ℤ)) → (if b then terms else (i, z) ∷ terms) ++ more ≡ (if b then terms ++ more else (i, z) ∷ (terms ++ more))
terms_both true i z terms more = refl
terms_both false i z terms more = refl

terms_push : (k : ℕ) (numbers : List ℤ) (z : ℤ) → terms_from k (numbers ++ z ∷ []) ≡ terms_from k numbers ++ with_term (k + length numbers) z []
terms_push k [] z =
    let same : k ≡ k + 0 = omega arith in
    ap (λ i. with_term i z []) same
terms_push k (y ∷ numbers) z =
    let same : k + 1 + length numbers ≡ k + length (y ∷ numbers) = omega arith in
    ap (λ l. with_term k y l) (terms_push (k + 1) numbers z ∙ ap (λ i. terms_from (k + 1) numbers ++ with_term i z []) same)
    ∙ sym (terms_both (nat_eq (unsigned_abs y) 0) k y (terms_from (k + 1) numbers) (with_term (k + length (y ∷ numbers)) z []))

pub terms_next : (numbers : List ℤ) (at : ℕ) (made new : List (ℕ × ℤ)) → at < length numbers → made ≡ terms_from 0 (take at numbers) → new ≡ made ++ with_term at (get_or numbers at (pos 0)) [] → new ≡ terms_from 0 (take (at + 1) numbers)
terms_next numbers at made new inside is added =
    let none : ℤ = pos 0 in
    let size : length (take at numbers) ≡ at = length-take-le at numbers (omega (arith, inside)) in
    let same : 0 + length (take at numbers) ≡ at = omega (arith, size) in
    added ∙ ap (λ l. l ++ with_term at (get_or numbers at none) []) is
    ∙ ap (λ i. terms_from 0 (take at numbers) ++ with_term i (get_or numbers at none) []) (sym same)
    ∙ sym (terms_push 0 (take at numbers) (get_or numbers at none))
    ∙ ap (λ l. terms_from 0 l) (sym (take_more numbers at none inside))

term_kept : (b : Bool) (i : ℕ) (z : ℤ) (none : List (ℕ × ℤ)) → b ≡ false → (if b then none else (i, z) ∷ none) ≡ (i, z) ∷ none
term_kept b i z none e = ap (λ t. if t then none else (i, z) ∷ none) e

term_none : (b : Bool) (i : ℕ) (z : ℤ) (none : List (ℕ × ℤ)) → b ≡ true → (if b then none else (i, z) ∷ none) ≡ none
term_none b i z none e = ap (λ t. if t then none else (i, z) ∷ none) e

-- a number that is not zero is added
pub terms_added : (numbers : List ℤ) (at : ℕ) (z : ℤ) (made new : List (ℕ × ℤ)) → at < length numbers → z ≡ get_or numbers at (pos 0) → (unsigned_abs z ≡ 0 → ⊥) → made ≡ terms_from 0 (take at numbers) → new ≡ made ++ (at, z) ∷ [] → new ≡ terms_from 0 (take (at + 1) numbers)
terms_added numbers at z made new inside read some is added =
    let kept : nat_eq (unsigned_abs z) 0 ≡ false = not_equal (nat_eq (unsigned_abs z) 0) (unsigned_abs z) refl some in
    terms_next numbers at made new inside is (added ∙ ap (λ l. made ++ l) (sym (term_kept (nat_eq (unsigned_abs z) 0) at z [] kept)) ∙ ap (λ y. made ++ with_term at y []) read)
  where
    not_equal : (b : Bool) (n : ℕ) → nat_eq n 0 ≡ b → (n ≡ 0 → ⊥) → b ≡ false
    not_equal true n e f = absurd (f (eqb-true n 0 e))
    not_equal false n e f = refl

-- zero is not
pub terms_left : (numbers : List ℤ) (at : ℕ) (z : ℤ) (made : List (ℕ × ℤ)) → at < length numbers → z ≡ get_or numbers at (pos 0) → unsigned_abs z ≡ 0 → made ≡ terms_from 0 (take at numbers) → made ≡ terms_from 0 (take (at + 1) numbers)
terms_left numbers at z made inside read none is =
    let gone : nat_eq (unsigned_abs z) 0 ≡ true = eq-eqb (unsigned_abs z) 0 none in
    terms_next numbers at made made inside is (sym (append-nil made) ∙ ap (λ l. made ++ l) (sym (term_none (nat_eq (unsigned_abs z) 0) at z [] gone)) ∙ ap (λ y. made ++ with_term at y []) read)
