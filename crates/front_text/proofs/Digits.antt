-- Numbers: what is read is spelled so, and what is spelled is read.
use Rattle.std.proofs.Common.{◌≡◌, ◌≢◌, ℕ, zero, suc, ◌+◌, ◌-◌, ◌<◌, ◌≤◌, Bool, cond, leb, eqb, Ok, Err, refl, sym, ap, ◌∙◌, inl, inr, arith, ℤ, pos, negsuc, neg_ℤ}
use Rattle.std.specs.Prelude.{unsigned_abs}
use Rattle.std.specs.Fmt.{decimal, signed_decimal}
use Rattle.std.proofs.lemmas.Bool.{leb-false, lt-leb, eqb-false, ne_eqb, cases_lt, lt-ltb, le-ltb}
use Rattle.cert_text.specs.Capped.{most, cap, capped, capped_whole, capped_natural_at, capped_whole_at}
use Rattle.cert_text.specs.Reading.{natural_at, whole_at}
use Rattle.cert_text.specs.Reading as certificates
use Rattle.cert_text.specs.Spelling.{Word}
use Rattle.cert_text.proofs.Numbers.{natural_again, natural_takes, whole_again, whole_takes}
use Rattle.cert_text.proofs.Results.{same_ok, bind_ok, unless_test}
use Rattle.front_text.specs.declared.fault.FrontWhy.TheVariants.{BadLine}
use Rattle.front_text.specs.Reading.{◌>>=◌, Reading, factor_in, from_least, in_form, natural_in, nonzero, number_in, positive, positive_in, whole_in}

of_form : {X : Type 0} (r : certificates.Reading X) (x : X) → in_form r ≡ Ok x → r ≡ Ok x
of_form (Ok y) x e = ap (λ z. Ok z) (same_ok y x e)
of_form (Err why) x e = absurd cc

cap_low : (n : ℕ) → n < most → cap n ≡ n
cap_low n h = ap (λ (t : Bool). cond t n most) (lt-ltb n most h)

cap_high : (n : ℕ) → most ≤ n → cap n ≡ most
cap_high n h = ap (λ (t : Bool). cond t n most) (le-ltb n most h)

uncapped : (m n : ℕ) → cap m ≡ n → n < most → m ≡ n
uncapped m n e h = elim (cases_lt m most) [
  | inl low ↦ sym (cap_low m low) ∙ e
  | inr high ↦ absurd (omega (arith, cap_high m high, e, h))
]

-- ---- from 0 on

pub natural_read : (w : Word) (n : ℕ) → natural_in w ≡ Ok n → n < most → decimal n ≡ w
unfolding natural_in
natural_read w n e h =
    let a = bind_ok (natural_at w) capped n (of_form (capped_natural_at w) n e) in
    let same = uncapped a.0 n (same_ok (cap a.0) n a.2) h in
    ap decimal (sym same) ∙ natural_takes w a.0 a.1 (omega (arith, same, h))

pub natural_spelled : (n : ℕ) → n < most → natural_in (decimal n) ≡ Ok n
unfolding natural_in
natural_spelled n h =
    ap (λ (r : certificates.Reading ℕ). in_form (r >>= capped)) (natural_again n (omega (arith, h))) ∙ ap (λ (k : ℕ). Ok k) (cap_low n h)

-- ---- of both signs

uncapped_whole : (y z : ℤ) → capped_whole y ≡ Ok z → unsigned_abs z < most → y ≡ z
uncapped_whole (pos n) z e h =
    let is = same_ok (pos (cap n)) z e in
    ap pos (uncapped n (cap n) refl (omega (arith, ap unsigned_abs is, h))) ∙ is
uncapped_whole (negsuc n) z e h =
    let is = same_ok (neg_ℤ (pos (cap (suc n)))) z e in
    ap (λ (k : ℕ). neg_ℤ (pos k)) (uncapped (suc n) (cap (suc n)) refl (omega (arith, sym (minus_size (cap (suc n))) ∙ ap unsigned_abs is, h))) ∙ is
  where
    minus_size : (m : ℕ) → unsigned_abs (neg_ℤ (pos m)) ≡ m
    minus_size zero = refl
    minus_size (suc m) = refl

pub whole_read : (w : Word) (z : ℤ) → whole_in w ≡ Ok z → unsigned_abs z < most → signed_decimal z ≡ w
unfolding whole_in
whole_read w z e h =
    let a = bind_ok (whole_at w) capped_whole z (of_form (capped_whole_at w) z e) in
    let same = uncapped_whole a.0 z a.2 h in
    ap signed_decimal (sym same) ∙ whole_takes w a.0 a.1 (omega (arith, ap unsigned_abs same, h))

capped_same : (z : ℤ) → unsigned_abs z < most → capped_whole z ≡ Ok z
capped_same (pos n) h = ap (λ (k : ℕ). Ok (pos k)) (cap_low n h)
capped_same (negsuc n) h = ap (λ (k : ℕ). Ok (neg_ℤ (pos k))) (cap_low (suc n) h)

pub whole_spelled : (z : ℤ) → unsigned_abs z < most → whole_in (signed_decimal z) ≡ Ok z
unfolding whole_in
whole_spelled z h = ap (λ (r : certificates.Reading ℤ). in_form (r >>= capped_whole)) (whole_again z (omega (arith, h))) ∙ ap in_form (capped_same z h)

-- ---- at least 1, and not 0

pub positive_read : (w : Word) (n : ℕ) → positive_in w ≡ Ok n → n < most → (decimal n ≡ w) × (1 ≤ n)
unfolding positive_in
positive_read w n e h =
    let a = bind_ok (natural_in w) positive n e in
    let g = unless_test (eqb a.0 0) (Ok a.0) BadLine n a.2 in
    let same = same_ok a.0 n g.1 in
    (natural_read w n (a.1 ∙ ap (λ (k : ℕ). Ok k) same) h, some n (λ z. eqb-false a.0 0 g.0 (same ∙ z)))
  where
    some : (k : ℕ) → (k ≡ 0 → ⊥) → 1 ≤ k
    some zero ne = absurd (ne refl)
    some (suc k) ne = omega arith

pub positive_spelled : (n : ℕ) → 1 ≤ n → n < most → positive_in (decimal n) ≡ Ok n
unfolding positive_in
positive_spelled n low h =
    ap (λ (r : Reading ℕ). r >>= positive) (natural_spelled n h) ∙ ap (λ (t : Bool). cond t (Err BadLine) (Ok n)) (ne_eqb n 0 (λ e. omega (arith, e, low)))

pub number_read : (least : ℕ) (w : Word) (n : ℕ) → number_in least w ≡ Ok n → n + 1 < most → (decimal (n + 1) ≡ w) × (least ≤ n)
unfolding number_in
number_read least w n e h =
    let a = bind_ok (natural_in w) (from_least least) n e in
    let g = unless_test (leb a.0 least) (Ok (a.0 - 1)) BadLine n a.2 in
    let high : least < a.0 = leb-false a.0 least g.0 in
    let same : a.0 ≡ n + 1 = omega (arith, same_ok (a.0 - 1) n g.1, high) in
    (natural_read w (n + 1) (a.1 ∙ ap (λ (k : ℕ). Ok k) same) h, omega (arith, high, same))

pub number_spelled : (least n : ℕ) → least ≤ n → n + 1 < most → number_in least (decimal (n + 1)) ≡ Ok n
unfolding number_in
number_spelled least n low h =
    ap (λ (r : Reading ℕ). r >>= from_least least) (natural_spelled (n + 1) h)
    ∙ ap (λ (t : Bool). cond t (Err BadLine) (Ok (n + 1 - 1))) (lt-leb (n + 1) least (omega (arith, low)))
    ∙ ap (λ (k : ℕ). Ok k) (let e : n + 1 - 1 ≡ n = omega arith in e)

no_size : (z : ℤ) → unsigned_abs z ≡ 0 → z ≡ pos 0
no_size (pos zero) e = refl
no_size (pos (suc n)) e = absurd (omega (arith, e))
no_size (negsuc n) e = absurd (omega (arith, e))

pub factor_read : (w : Word) (z : ℤ) → factor_in w ≡ Ok z → unsigned_abs z < most → (signed_decimal z ≡ w) × (z ≢ pos 0)
unfolding factor_in
factor_read w z e h =
    let a = bind_ok (whole_in w) nonzero z e in
    let g = unless_test (eqb (unsigned_abs a.0) 0) (Ok a.0) BadLine z a.2 in
    let same = same_ok a.0 z g.1 in
    (whole_read w z (a.1 ∙ ap (λ (y : ℤ). Ok y) same) h, λ none. eqb-false (unsigned_abs a.0) 0 g.0 (ap unsigned_abs (same ∙ none)))

pub factor_spelled : (z : ℤ) → z ≢ pos 0 → unsigned_abs z < most → factor_in (signed_decimal z) ≡ Ok z
unfolding factor_in
factor_spelled z ne h =
    ap (λ (r : Reading ℤ). r >>= nonzero) (whole_spelled z h) ∙ ap (λ (t : Bool). cond t (Err BadLine) (Ok z)) (ne_eqb (unsigned_abs z) 0 (λ e. ne (no_size z e)))
