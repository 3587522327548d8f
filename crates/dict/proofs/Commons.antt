-- Common divisors of a row, and its look-up.
use Rattle.std.proofs.Common.{ℕ, zero, suc, ◌+◌, ◌^◌, ◌≤◌, ◌<◌, ◌≡◌, ◌∙◌, refl, sym, ap, subst, arith, ℤ, pos, ◌*ℤ◌, ◌<ℤ◌, ◌≤ℤ◌, List, [], ◌∷◌, ◌++◌, length, drop, get_or, append_assoc, to_z, of_z, FitsSigned}
use Rattle.std.proofs.lemmas.Int.{ints, to_z-of_z}
use Rattle.std.proofs.Math.Nat.{one-dvd, eq-zero_of_zero-dvd}
use Rattle.std.proofs.lemmas.Nat.Gcd.{dvd_trans, dvd_refl, le_of_dvd}
use Rattle.std.specs.Prelude.{unsigned_abs, ⊤}
use Rattle.std.specs.Int.{IsGcd}
use Prim.Native.Nat.{◌∣◌}
use mir.Syntax.{w128}
use Rattle.lp_base.proofs.Machine.{again}
use Rattle.lpcc_case.specs.Points.{coefficient}
use Rattle.dict.specs.Terms.{AreTerms}
use Rattle.dict.specs.Equations.{Equation, equation, Divides, DividesEach, IsCommon, scale}
use Rattle.dict.proofs.SparseSums.{unroll, past_end, coefficient_below, terms_from}

pub divides_one : (ts : List (ℕ × ℤ)) → DividesEach 1 ts
divides_one [] = tt
divides_one (t ∷ ts) = (one-dvd (unsigned_abs t.1), divides_one ts)

-- g is the greatest common divisor of all numbers but those of the terms from i on
pub record CommonSoFar (q : Equation) (ts : List (ℕ × ℤ)) (i : ℕ) (g : ℤ) : Type 0 where
  pub positive : pos 0 <ℤ g
  pub small : unsigned_abs g < 2 ^ 127
  pub down : (d : ℕ) → Divides d q → d ∣ unsigned_abs g × DividesEach d (drop i ts)
  pub up : (d : ℕ) → d ∣ unsigned_abs g → DividesEach d (drop i ts) → Divides d q

pub so_far_first : (den constant g : ℤ) (ts : List (ℕ × ℤ)) → pos 0 <ℤ g → unsigned_abs g < 2 ^ 127 → IsGcd (unsigned_abs den) (unsigned_abs constant) (unsigned_abs g) → CommonSoFar (equation den constant ts) ts 0 g
so_far_first den constant g ts over small is = record {
  positive = over;
  small = small;
  down = λ d all. (is.2 d all.den all.constant, all.entries);
  up = λ d h each. record { den = dvd_trans d h is.0; constant = dvd_trans d h is.1; entries = each };
}

pub so_far_more : (q : Equation) (ts : List (ℕ × ℤ)) (i : ℕ) (g g' : ℤ) (t : ℕ × ℤ) → i < length ts → t ≡ get_or ts i (0, pos 0) → pos 0 <ℤ g' → unsigned_abs g' < 2 ^ 127 → IsGcd (unsigned_abs g) (unsigned_abs t.1) (unsigned_abs g') → CommonSoFar q ts i g → CommonSoFar q ts (i + 1) g'
so_far_more q ts i g g' t hi et over small is before =
    let more : drop i ts ≡ t ∷ drop (i + 1) ts = unroll ts i t hi et in
    record {
      positive = over;
      small = small;
      down = λ d all.
          let b = before.down d all in
          let c : DividesEach d (t ∷ drop (i + 1) ts) = subst (λ (z : List (ℕ × ℤ)). DividesEach d z) more b.1 in
          (is.2 d b.0 c.0, c.1);
      up = λ d h each. before.up d (dvd_trans d h is.0) (subst (λ (z : List (ℕ × ℤ)). DividesEach d z) (sym more) (dvd_trans d h is.1, each));
    }

-- at the end of the list, and where the divisor is 1 before it
pub so_far_end : (q : Equation) (ts : List (ℕ × ℤ)) (i : ℕ) (g : ℤ) → length ts ≤ i → CommonSoFar q ts i g → IsCommon (unsigned_abs g) q
so_far_end q ts i g past so_far = (
  so_far.up (unsigned_abs g) (dvd_refl (unsigned_abs g)) (subst (λ (z : List (ℕ × ℤ)). DividesEach (unsigned_abs g) z) (sym (past_end ts i past)) tt),
  λ d h. (so_far.down d h).0,
)

pub so_far_one : (q : Equation) (ts : List (ℕ × ℤ)) (i : ℕ) (g : ℤ) → g ≡ pos 1 → CommonSoFar q ts i g → IsCommon (unsigned_abs g) q
so_far_one q ts i g one so_far =
    let is : unsigned_abs g ≡ 1 = ap unsigned_abs one in (
      so_far.up (unsigned_abs g) (dvd_refl (unsigned_abs g)) (subst (λ (n : ℕ). DividesEach n (drop i ts)) (sym is) (divides_one (drop i ts))),
      λ d h. (so_far.down d h).0,
    )

pub equation_again : (y z : ℤ) (ts : List (ℕ × ℤ)) → FitsSigned w128 y → FitsSigned w128 z → equation (to_z w128 (of_z w128 y)) (to_z w128 (of_z w128 z)) ts ≡ equation y z ts
equation_again y z ts fy fz = rw (to_z-of_z w128 y fy, to_z-of_z w128 z fz) refl

pub divides_at : (d : ℕ) (ts : List (ℕ × ℤ)) (i : ℕ) (t : ℕ × ℤ) → i < length ts → t ≡ get_or ts i (0, pos 0) → DividesEach d ts → d ∣ unsigned_abs t.1
divides_at d [] i t h e all = absurd (omega arith)
divides_at d (s ∷ ts) zero t h e all = rw e all.0
divides_at d (s ∷ ts) (suc i) t h e all = divides_at d ts i t (omega arith) e all.1

-- a divisor of a positive number
pub above : (g : ℕ) (z : ℤ) → g ∣ unsigned_abs z → pos 0 <ℤ z → 0 < g
above zero z h k = absurd (omega (arith, ints, eq-zero_of_zero-dvd h))
above (suc g) z h k = omega arith

-- the quotients, one more
pub scale_end : (g : ℤ) (ts : List (ℕ × ℤ)) (t : ℕ × ℤ) → scale g (ts ++ t ∷ []) ≡ scale g ts ++ (t.0, t.1 *ℤ g) ∷ []
scale_end g [] t = refl
scale_end g (s ∷ ts) t = ap (λ z. (s.0, s.1 *ℤ g) ∷ z) (scale_end g ts t)

-- each number is narrow
abbrev pub NarrowEach : List (ℕ × ℤ) → Type 0
NarrowEach [] = ⊤
NarrowEach (t ∷ ts) = (unsigned_abs t.1 < 2 ^ 63) × NarrowEach ts

pub narrow_end : (ts : List (ℕ × ℤ)) (t : ℕ × ℤ) → NarrowEach ts → unsigned_abs t.1 < 2 ^ 63 → NarrowEach (ts ++ t ∷ [])
narrow_end [] t h k = (k, tt)
narrow_end (s ∷ ts) t h k = (h.0, narrow_end ts t h.1 k)

pub append_none : (xs : List (ℕ × ℤ)) → xs ++ [] ≡ xs
append_none [] = refl
append_none (x ∷ xs) = ap (λ z. x ∷ z) (append_none xs)

pub divide_step : (g : ℤ) (ts : List (ℕ × ℤ)) (i : ℕ) (t : ℕ × ℤ) (n : ℤ) (out out' : List (ℕ × ℤ)) → i < length ts → t ≡ get_or ts i (0, pos 0) → n *ℤ g ≡ t.1 → out' ≡ out ++ (t.0, n) ∷ [] → scale g out ++ drop i ts ≡ ts → scale g out' ++ drop (i + 1) ts ≡ ts
divide_step g ts i t n out out' h e en eo before =
    let a : scale g out' ≡ scale g out ++ t ∷ [] = rw (eo, scale_end g out (t.0, n), en) refl in
    rw (a, append_assoc (scale g out) (t ∷ []) (drop (i + 1) ts)) (ap (λ z. scale g out ++ z) (sym (unroll ts i t h e)) ∙ before)

pub divide_done : (g : ℤ) (ts out : List (ℕ × ℤ)) (i : ℕ) → length ts ≤ i → scale g out ++ drop i ts ≡ ts → scale g out ≡ ts
divide_done g ts out i h e = sym (append_none (scale g out)) ∙ subst (λ (z : List (ℕ × ℤ)). scale g out ++ z ≡ ts) (past_end ts i h) e

-- looking for a place
pub look_past : (bound low high : ℕ) (ts : List (ℕ × ℤ)) (i e : ℕ) (t : ℕ × ℤ) (z : ℤ) → i < length ts → t ≡ get_or ts i (0, pos 0) → AreTerms bound low high ts → e < t.0 → coefficient (drop i ts) e ≡ z → z ≡ pos 0
look_past bound low high ts i e t z h et all past c =
    let d = terms_from bound low high ts i all in
    let more : drop i ts ≡ t ∷ drop (i + 1) ts = unroll ts i t h et in
    let f : AreTerms bound d.0 high (t ∷ drop (i + 1) ts) = subst (λ (y : List (ℕ × ℤ)). AreTerms bound d.0 high y) more d.1 in
    let g : AreTerms bound t.0 high (t ∷ drop (i + 1) ts) = (omega arith, f.1, f.2, f.3) in
    sym c ∙ ap (λ (y : List (ℕ × ℤ)). coefficient y e) more ∙ coefficient_below bound t.0 high (t ∷ drop (i + 1) ts) e g past

-- 1 stays 1
pub gcd_one : (g z : ℤ) → g ≡ pos 1 → IsGcd (unsigned_abs g) (unsigned_abs z) 1
gcd_one g z e = let h : unsigned_abs g ≡ 1 = ap unsigned_abs e in rw h (dvd_refl 1, one-dvd (unsigned_abs z), λ d a b. a)

-- the size of a divisor of a positive number, and its sign
pub divisor_above : (g z r : ℤ) → pos 0 <ℤ g → pos 0 ≤ℤ r → IsGcd (unsigned_abs g) (unsigned_abs z) (unsigned_abs r) → pos 0 <ℤ r
divisor_above g z r hg hr is = let some : 0 < unsigned_abs r = above (unsigned_abs r) g is.0 hg in omega (arith, ints, hr, some)

pub divisor_small : (g z r : ℤ) → pos 0 <ℤ g → unsigned_abs g < 2 ^ 127 → IsGcd (unsigned_abs g) (unsigned_abs z) (unsigned_abs r) → unsigned_abs r < 2 ^ 127
divisor_small g z r hg small is =
    let le : unsigned_abs r ≤ unsigned_abs g = le_of_dvd (omega (arith, ints, hg)) is.0 in
    omega (arith, le, small)

-- the divisor that the code's `gcd` gave
pub record GcdWith (g z r : ℤ) : Type 0 where
  pub divisor : IsGcd (unsigned_abs g) (unsigned_abs z) (unsigned_abs r)
  pub positive : pos 0 <ℤ r
  pub small : unsigned_abs r < 2 ^ 127

pub gcd_again : (g z r : ℤ) → pos 0 <ℤ g → unsigned_abs g < 2 ^ 127 → unsigned_abs z < 2 ^ 127 → pos 0 ≤ℤ r → IsGcd (unsigned_abs (to_z w128 (of_z w128 g))) (unsigned_abs (to_z w128 (of_z w128 z))) (unsigned_abs r) → GcdWith g z (to_z w128 (of_z w128 r))
gcd_again g z r over small_g small_z above is =
    let is_r : IsGcd (unsigned_abs g) (unsigned_abs z) (unsigned_abs r) = subst (λ (x : ℤ). IsGcd (unsigned_abs x) (unsigned_abs z) (unsigned_abs r)) (again g small_g) (subst (λ (y : ℤ). IsGcd (unsigned_abs (to_z w128 (of_z w128 g))) (unsigned_abs y) (unsigned_abs r)) (again z small_z) is) in
    let small : unsigned_abs r < 2 ^ 127 = divisor_small g z r over small_g is_r in
    subst (λ (x : ℤ). GcdWith g z x) (sym (again r small)) (record { divisor = is_r; positive = divisor_above g z r over above is_r; small = small })

pub is_gcd_again : (a r : ℕ) (z : ℤ) → unsigned_abs z < 2 ^ 127 → IsGcd a (unsigned_abs (to_z w128 (of_z w128 z))) r → IsGcd a (unsigned_abs z) r
is_gcd_again a r z h is = subst (λ (n : ℕ). IsGcd a n r) (ap unsigned_abs (again z h)) is
