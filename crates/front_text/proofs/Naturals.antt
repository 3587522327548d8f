-- Whole numbers of at least 0, from their first byte.
use Rattle.std.proofs.Common.{◌≡◌, ℕ, Bool, true, false, ◌&&◌, cond, ltb, eqb, [], ◌∷◌, length, Err, refl, sym, ap, ◌∙◌, arith}
use Rattle.std.proofs.lemmas.Bool.{lt-ltb}
use Rattle.cert_text.specs.declared.fault.CertWhy.TheVariants.{BadLine}
use Rattle.cert_text.specs.Capped.{capped, capped_digits_at, capped_natural_at}
use Rattle.cert_text.specs.Reading.{◌>>=◌, Reading, digits_at, natural_at}
use Rattle.cert_text.specs.Spelling.{Word}

pub natural_none : (w : Word) → length w ≡ 0 → Err BadLine ≡ capped_natural_at w
unfolding natural_at
natural_none [] e = refl
natural_none (b ∷ w) e = absurd (omega (arith, e))

by_test : (t : Bool) (r : Reading ℕ) → (cond t (Err BadLine) r >>= capped) ≡ cond t (Err BadLine) (r >>= capped)
by_test true r = refl
by_test false r = refl

and_false : (b : Bool) → (b && false) ≡ false
and_false true = refl
and_false false = refl

and_true : (b : Bool) → (b && true) ≡ b
and_true true = refl
and_true false = refl

natural_by : (b : ℕ) (rest : Word) → capped_natural_at (b ∷ rest) ≡ cond (eqb b 48 && ltb 0 (length rest)) (Err BadLine) (capped_digits_at (b ∷ rest))
unfolding natural_at
natural_by b [] = sym (ap (λ (t : Bool). cond t (Err BadLine) (capped_digits_at (b ∷ []))) (and_false (eqb b 48)))
natural_by b (c ∷ rest) =
    by_test (eqb b 48) (digits_at (b ∷ c ∷ rest))
    ∙ sym (ap (λ (t : Bool). cond t (Err BadLine) (capped_digits_at (b ∷ c ∷ rest))) (ap (λ (t : Bool). eqb b 48 && t) (lt-ltb 0 (length (c ∷ rest)) (omega arith)) ∙ and_true (eqb b 48)))

pub natural_zero : (w rest : Word) (b : ℕ) → w ≡ b ∷ rest → (eqb b 48 && ltb 0 (length rest)) ≡ true → Err BadLine ≡ capped_natural_at w
natural_zero w rest b e t = sym (ap capped_natural_at e ∙ natural_by b rest ∙ ap (λ (u : Bool). cond u (Err BadLine) (capped_digits_at (b ∷ rest))) t)

pub natural_digits : (w rest : Word) (b : ℕ) → w ≡ b ∷ rest → (eqb b 48 && ltb 0 (length rest)) ≡ false → capped_digits_at w ≡ capped_natural_at w
natural_digits w rest b e t = ap capped_digits_at e ∙ sym (ap capped_natural_at e ∙ natural_by b rest ∙ ap (λ (u : Bool). cond u (Err BadLine) (capped_digits_at (b ∷ rest))) t)
