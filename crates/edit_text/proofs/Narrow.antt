-- Narrow numbers: what is read is spelled so, and what is spelled is read.
use Rattle.std.proofs.Common.{◌≡◌, zero, suc, ◌^◌, ◌<◌, Bool, true, false, cond, ltb, eqb, Ok, Err, refl, sym, ap, subst, ◌∙◌, arith, lit<, ℤ, pos, negsuc}
use Rattle.std.specs.Prelude.{bytes_eq, codes, unsigned_abs}
use Rattle.std.specs.Fmt.{signed_decimal}
use Rattle.std.proofs.lemmas.Bool.{ltb-true, lt-ltb, eqb-true, false≢true}
use Rattle.std.proofs.lemmas.Fmt.{decimal_digit}
use Rattle.std.proofs.lemmas.Slice.Eq.{bytes_eq-Decides}
use Rattle.lp_base.specs.Numbers.{IsNarrow}
use Rattle.cert_text.specs.declared.fault.CertWhy.TheVariants.{BadLine, NumberWide}
use Rattle.cert_text.specs.Spelling.{Word}
use Rattle.cert_text.specs.Reading.{factor, factor_at}
use Rattle.cert_text.proofs.Numbers.{whole_again, whole_takes}
use Rattle.cert_text.proofs.Results.{bind_ok, by_test}
use Rattle.edit_text.specs.Reading.{◌>>=◌, Reading, narrow, narrow_at, whole_at}

pub narrow_takes : (w : Word) (z : ℤ) → narrow_at w ≡ Ok z → (signed_decimal z ≡ w) × IsNarrow z
unfolding narrow_at
narrow_takes w z e =
    let a = bind_ok (whole_at w) narrow z e in
    let g = by_test (ltb (unsigned_abs a.0) (2 ^ 63)) a.0 NumberWide z a.2 in
    let small : IsNarrow z = subst (λ (y : ℤ). unsigned_abs y < 2 ^ 63) g.1 (ltb-true (unsigned_abs a.0) (2 ^ 63) g.0) in
    (whole_takes w z (a.1 ∙ ap (λ (y : ℤ). Ok y) g.1) (omega (arith, small)), small)

pub narrow_again : (z : ℤ) → IsNarrow z → narrow_at (signed_decimal z) ≡ Ok z
unfolding narrow_at
narrow_again z h =
    ap (λ (r : Reading ℤ). r >>= narrow) (whole_again z (omega (arith, h))) ∙ ap (λ (t : Bool). cond t (Ok z) (Err NumberWide)) (lt-ltb (unsigned_abs z) (2 ^ 63) h)

-- ---- how the code reads them: 0, or a number that is not 0

abbrev zero_word : Word
zero_word = codes "0"

zero_spelled : signed_decimal (pos 0) ≡ zero_word
zero_spelled = decimal_digit 0 (lit< tt)

pub narrow_zero : (w : Word) → bytes_eq w zero_word ≡ true → narrow_at w ≡ Ok (pos 0)
narrow_zero w t = ap narrow_at ((bytes_eq-Decides w zero_word).0 t ∙ sym zero_spelled) ∙ narrow_again (pos 0) (lit< tt)

no_size : (z : ℤ) → unsigned_abs z ≡ 0 → z ≡ pos 0
no_size (pos zero) e = refl
no_size (pos (suc n)) e = absurd (omega (arith, e))
no_size (negsuc n) e = absurd (omega (arith, e))

factor_by : (z : ℤ) (b : Bool) → eqb (unsigned_abs z) 0 ≡ b → (z ≡ pos 0 → ⊥) → factor z ≡ narrow z
factor_by z true e some = absurd (some (no_size z (eqb-true (unsigned_abs z) 0 e)))
factor_by z false e some = ap (λ (t : Bool). cond t (Err BadLine) (narrow z)) e

pub narrow_factor : (w : Word) → bytes_eq w zero_word ≡ false → factor_at w ≡ narrow_at w
unfolding factor_at narrow_at
narrow_factor w t = by (whole_at w) refl
  where
    by : (r : Reading ℤ) → whole_at w ≡ r → (r >>= factor) ≡ (r >>= narrow)
    by (Ok z) e = factor_by z (eqb (unsigned_abs z) 0) refl (λ zero. false≢true (sym t ∙ (bytes_eq-Decides w zero_word).1 (sym (whole_takes w (pos 0) (e ∙ ap (λ (y : ℤ). Ok y) zero) (lit< tt)) ∙ zero_spelled)))
    by (Err why) e = refl
