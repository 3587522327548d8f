-- A reduced row over independent forms is one and the same.
use Rattle.std.proofs.Common.{ℕ, ◌+◌, ◌*◌, ◌≤◌, ◌<◌, ◌≡◌, ◌∙◌, refl, sym, ap, subst, arith, ℤ, pos, ◌*ℤ◌, List, [], ◌∷◌}
use Rattle.std.specs.Prelude.{unsigned_abs}
use Rattle.std.proofs.lemmas.Int.{ints, unsigned_abs-mul}
use Rattle.std.proofs.Math.Nat.{mul-le-mul}
use Rattle.lpcc_case.specs.Points.{coefficient}
use Rattle.dict.specs.Terms.{AreTerms}
use Rattle.dict.specs.Equations.{Equation, IsMultiple, IsReduced, IsRow}
use Rattle.dict.specs.Forms.{Affine, AreIndependent, IsRowOf}
use Rattle.dict.proofs.Determined.{later, row_multiple}
use Rattle.dict.proofs.Pivots.{by_lt}
use Rattle.dict.proofs.SparseSums.{coefficient_at, coefficient_below, times_one}

-- ---- terms with the same coefficients

term_first : (b low high : ℕ) (t : ℕ × ℤ) (ts : List (ℕ × ℤ)) → AreTerms b low high (t ∷ ts) → coefficient (t ∷ ts) t.0 ≡ t.1
term_first b low high t ts all = coefficient_at b low high (t ∷ ts) 0 t (omega arith) refl all

term_before : (b low high j : ℕ) (t : ℕ × ℤ) (ts : List (ℕ × ℤ)) → AreTerms b low high (t ∷ ts) → j < t.0 → coefficient (t ∷ ts) j ≡ pos 0
term_before b low high j t ts all lt = coefficient_below b t.0 high (t ∷ ts) j (omega arith, all.1, all.2, all.3) lt

not_none : (z : ℤ) → 0 < unsigned_abs z → z ≡ pos 0 → ⊥
not_none z some e = omega (arith, ints, some, e)

-- the first terms of two lists with the same coefficients stand at one place
not_before : (b c low low' high high' : ℕ) (t u : ℕ × ℤ) (ts us : List (ℕ × ℤ)) → AreTerms b low high (t ∷ ts) → AreTerms c low' high' (u ∷ us) → ((j : ℕ) → coefficient (t ∷ ts) j ≡ coefficient (u ∷ us) j) → t.0 < u.0 → ⊥
not_before b c low low' high high' t u ts us all other same lt =
    not_none t.1 all.1 (sym (term_first b low high t ts all) ∙ same t.0 ∙ term_before c low' high' t.0 u us other lt)

same_rest : (b c low low' high high' p : ℕ) (z y : ℤ) (ts us : List (ℕ × ℤ)) → AreTerms b (p + 1) high ts → AreTerms c (p + 1) high' us → ((j : ℕ) → coefficient ((p, z) ∷ ts) j ≡ coefficient ((p, y) ∷ us) j) → (j : ℕ) → coefficient ts j ≡ coefficient us j
same_rest b c low low' high high' p z y ts us all other same j =
    by_lt j (p + 1)
    (λ lt. coefficient_below b (p + 1) high ts j all lt ∙ sym (coefficient_below c (p + 1) high' us j other lt))
    (λ ge. sym (later p j z ts ge) ∙ same j ∙ later p j y us ge)

pub same_terms : (b c low low' high high' : ℕ) (ts us : List (ℕ × ℤ)) → AreTerms b low high ts → AreTerms c low' high' us → ((j : ℕ) → coefficient ts j ≡ coefficient us j) → ts ≡ us
same_terms b c low low' high high' [] [] all other same = refl
same_terms b c low low' high high' [] (u ∷ us) all other same = absurd (not_none u.1 other.1 (sym (term_first c low' high' u us other) ∙ sym (same u.0)))
same_terms b c low low' high high' (t ∷ ts) [] all other same = absurd (not_none t.1 all.1 (sym (term_first b low high t ts all) ∙ same t.0))
same_terms b c low low' high high' (t ∷ ts) (u ∷ us) all other same =
    let place : t.0 ≡ u.0 =
    by_lt t.0 u.0
    (λ lt. absurd (not_before b c low low' high high' t u ts us all other same lt))
    (λ ge. by_lt u.0 t.0 (λ lt. absurd (not_before c b low' low high' high u t us ts other all (λ j. sym (same j)) lt)) (λ le. omega (arith, ge, le))) in
    let number : t.1 ≡ u.1 = sym (term_first b low high t ts all) ∙ same t.0 ∙ ap (λ j. coefficient (u ∷ us) j) place ∙ term_first c low' high' u us other in
    let there : AreTerms c (t.0 + 1) high' us = subst (λ (p : ℕ). AreTerms c (p + 1) high' us) (sym place) other.3 in
    let moved : (j : ℕ) → coefficient ((t.0, t.1) ∷ ts) j ≡ coefficient ((t.0, u.1) ∷ us) j = λ j. same j ∙ ap (λ p. coefficient ((p, u.1) ∷ us) j) (sym place) in
    let rest : ts ≡ us = same_terms b c (t.0 + 1) (t.0 + 1) high high' ts us all.3 there (same_rest b c low low' high high' t.0 t.1 u.1 ts us all.3 there moved) in
    λ i. (place i, number i) ∷ rest i

-- ---- rows that are multiples of each other

one_factor : (d f g m : ℕ) → 0 < d → 0 < f → 0 < g → m ≡ d * f → d ≡ m * g → f ≡ 1
one_factor d f g m some hf hg em ed =
    let up : m * 1 ≤ m * g = mul-le-mul (omega arith) (omega (arith, hg)) in
    by_lt 1 f
    (λ more. let twice : d * 2 ≤ d * f = mul-le-mul (omega arith) (omega (arith, more)) in absurd (omega (arith, up, twice, em, ed, some)))
    (λ few. omega (arith, few, hf))

times_size : (a b : ℤ) (k : ℕ) → b ≡ a *ℤ pos k → unsigned_abs b ≡ unsigned_abs a * k
times_size a b k e = ap unsigned_abs e ∙ unsigned_abs-mul a (pos k)

same_row : (b c places : ℕ) (q m : Equation) → IsRow b places q → IsRow c places m → IsMultiple q m → IsMultiple m q → q ≡ m
same_row b c places q m is other one two =
    let some : 0 < unsigned_abs q.den = omega (arith, ints, is.positive) in
    let f : one.factor ≡ 1 = one_factor (unsigned_abs q.den) one.factor two.factor (unsigned_abs m.den) some one.positive two.positive (times_size q.den m.den one.factor one.den) (times_size m.den q.den two.factor two.den) in
    let same : (y z : ℤ) → z ≡ y *ℤ pos one.factor → y ≡ z = λ y z e. sym (e ∙ ap (λ k. y *ℤ pos k) f ∙ times_one y) in
    let den : q.den ≡ m.den = same q.den m.den one.den in
    let constant : q.constant ≡ m.constant = same q.constant m.constant one.constant in
    let entries : q.entries ≡ m.entries = same_terms b c 0 0 places places q.entries m.entries is.entries other.entries (λ j. same (coefficient q.entries j) (coefficient m.entries j) (one.entries j)) in
    λ i. record { den = den i; constant = constant i; entries = entries i }

pub same_reduced : (n bound other : ℕ) (q m : Equation) (f : Affine) (g : ℕ → Affine) → AreIndependent n g → IsRow bound n q → IsReduced q → IsRow other n m → IsReduced m → IsRowOf q f g → IsRowOf m f g → q ≡ m
same_reduced n bound other q m f g independent is reduced there also hq hm =
    same_row bound other n q m is there (row_multiple n bound other q m f g independent is reduced there hq hm) (row_multiple n other bound m q f g independent there also is hm hq)
