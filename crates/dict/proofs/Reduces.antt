-- A row divided by its greatest common divisor.
use Rattle.std.proofs.Common.{ℕ, zero, suc, ◌+◌, ◌*◌, ◌/◌, ◌^◌, ◌≤◌, ◌<◌, ◌≡◌, ◌∙◌, refl, sym, ap, subst, arith, ℤ, pos, negsuc, ◌+ℤ◌, ◌-ℤ◌, ◌*ℤ◌, ◌<ℤ◌, ◌≤ℤ◌, neg_ℤ, List, [], ◌∷◌, Bool, true, false, cond, eqb}
use Rattle.std.proofs.lemmas.Int.{ints, unsigned_abs-mul}
use Rattle.std.proofs.Math.Nat.{mul-dvd-mul_right, eq-zero_of_zero-dvd, mul-le-mul, div-mul_cancel}
use Rattle.std.proofs.lemmas.Nat.Gcd.{le_of_dvd}
use Rattle.std.specs.Prelude.{unsigned_abs}
use Prim.Native.Nat.{◌∣◌}
use Rattle.lp_base.proofs.Ring.{mul_add_right, mul_assoc, mul_comm, mul_le_right}
use Rattle.lpcc_case.specs.Points.{coefficient}
use Rattle.dict.specs.Terms.{weigh, only, AreTerms}
use Rattle.dict.specs.Equations.{Equation, equation, Divides, DividesEach, IsCommon, IsReducedOf, IsRow, Holds, number_at, scale, scaled}
use Rattle.dict.specs.Exchanges.{IsWideAt}
use Rattle.dict.proofs.Machine.{is_pos}
use Rattle.dict.proofs.SparseSums.{weigh_scale, weigh_only}
use Rattle.dict.proofs.Commons.{NarrowEach}

divides_times : (d g : ℕ) (a : ℤ) → d ∣ unsigned_abs a → d * g ∣ unsigned_abs (a *ℤ pos g)
divides_times d g a h = subst (λ (n : ℕ). d * g ∣ n) (sym (unsigned_abs-mul a (pos g))) (mul-dvd-mul_right d h g)

pub divides_scale : (d g : ℕ) (ts : List (ℕ × ℤ)) → DividesEach d ts → DividesEach (d * g) (scale (pos g) ts)
divides_scale d g [] h = tt
divides_scale d g (t ∷ ts) h = (divides_times d g t.1 h.0, divides_scale d g ts h.1)

pub divides_scaled : (d g : ℕ) (q : Equation) → Divides d q → Divides (d * g) (scaled (pos g) q)
divides_scaled d g q h = record {
  den = divides_times d g q.den h.den;
  constant = divides_times d g q.constant h.constant;
  entries = divides_scale d g q.entries h.entries;
}

pub only_one : (d g : ℕ) → 0 < g → d * g ∣ g → d ≡ 1
only_one zero g over h =
    let e : 0 * g ≡ 0 = omega arith in
    absurd (omega (arith, over, eq-zero_of_zero-dvd (subst (λ (n : ℕ). n ∣ g) e h)))
only_one (suc zero) g over h = refl
only_one (suc (suc d)) g over h =
    let l : suc (suc d) * g ≤ g = le_of_dvd over h in
    let m : 2 * g ≤ suc (suc d) * g = mul-le-mul (omega arith) (omega arith) in
    absurd (omega (arith, l, m, over))

-- divided by the greatest common divisor, a row is reduced
pub reduced_of : (raw made : Equation) (g : ℕ) → 0 < g → scaled (pos g) made ≡ raw → ((d : ℕ) → Divides d raw → d ∣ g) → IsReducedOf raw made
reduced_of raw made g over exact greatest = record {
  g = g;
  positive = over;
  exact = exact;
  reduced = λ d h. only_one d g over (greatest (d * g) (subst (λ (r : Equation). Divides (d * g) r) exact (divides_scaled d g made h)));
}

pub sign_of : (a b : ℤ) (g : ℕ) → a *ℤ pos g ≡ b → pos 0 <ℤ b → pos 0 <ℤ a
sign_of (pos (suc n)) b g e h = omega (arith, ints)
sign_of (pos zero) b g e h = absurd (omega (arith, ints, e, h, mul_le_right g (pos 0) (pos 0) (omega (arith, ints))))
sign_of (negsuc n) b g e h =
    let m : (negsuc n *ℤ pos g) ≤ℤ (pos 0 *ℤ pos g) = mul_le_right g (negsuc n) (pos 0) (omega (arith, ints)) in
    absurd (omega (arith, ints, e, h, m))

-- the number at a place of a row that is scaled
number_by : (b c : Bool) (constant den entry constant' den' entry' g : ℤ) → constant' ≡ constant *ℤ g → den' ≡ den *ℤ g → entry' ≡ entry *ℤ g → cond b constant' (cond c den' entry') ≡ cond b constant (cond c den entry) *ℤ g
number_by true c constant den entry constant' den' entry' g hc hd he = hc
number_by false true constant den entry constant' den' entry' g hc hd he = hd
number_by false false constant den entry constant' den' entry' g hc hd he = he

pub number_times : (places at : ℕ) (q m : Equation) (g : ℤ) → m.constant ≡ q.constant *ℤ g → m.den ≡ q.den *ℤ g → coefficient m.entries at ≡ coefficient q.entries at *ℤ g → number_at places m at ≡ number_at places q at *ℤ g
number_times places at q m g hc hd he = number_by (eqb at places) (eqb at (places + 1)) q.constant q.den (coefficient q.entries at) m.constant m.den (coefficient m.entries at) g hc hd he

pub number_scaled : (places at : ℕ) (q : Equation) (g : ℤ) → number_at places (scaled g q) at ≡ number_at places q at *ℤ g
number_scaled places at q g = number_times places at q (scaled g q) g refl refl (sym (weigh_only (scale g q.entries) at) ∙ weigh_scale g q.entries (only at) ∙ ap (λ z. z *ℤ g) (weigh_only q.entries at))

pub number_den : (places : ℕ) (q : Equation) → number_at places q (places + 1) ≡ q.den
number_den places q = grind arith

pub number_constant : (places : ℕ) (q : Equation) → number_at places q places ≡ q.constant
number_constant places q = grind arith

pub number_entry : (places at : ℕ) (q : Equation) → at < places → number_at places q at ≡ coefficient q.entries at
number_entry places at q h = grind arith

-- an exact quotient
pub quotient : ℕ → ℤ → ℤ
quotient g (pos n) = pos (n / g)
quotient g (negsuc n) = neg_ℤ (pos (suc n / g))

neg_exact : (q g n : ℕ) → q * g ≡ suc n → neg_ℤ (pos q) *ℤ pos g ≡ negsuc n
neg_exact q g n e =
    let p : pos q *ℤ pos g ≡ pos (suc n) = ap pos e in
    let none : neg_ℤ (pos q) +ℤ pos q ≡ pos 0 = omega (arith, ints) in
    let z : pos 0 *ℤ pos g ≡ pos 0 = omega (arith, ints) in
    let s : (neg_ℤ (pos q) +ℤ pos q) *ℤ pos g ≡ pos 0 = ap (λ y. y *ℤ pos g) none ∙ z in
    omega (arith, ints, sym (mul_add_right (pos g) (neg_ℤ (pos q)) (pos q)) ∙ s, p)

pub quotient_exact : (g : ℕ) (z : ℤ) → g ∣ unsigned_abs z → quotient g z *ℤ pos g ≡ z
unfolding quotient
quotient_exact g (pos n) h = ap pos (div-mul_cancel g h)
quotient_exact g (negsuc n) h = neg_exact (suc n / g) g n (div-mul_cancel g h)

pub quotients : ℕ → List (ℕ × ℤ) → List (ℕ × ℤ)
quotients g [] = []
quotients g (t ∷ ts) = (t.0, quotient g t.1) ∷ quotients g ts

pub quotients_exact : (g : ℕ) (ts : List (ℕ × ℤ)) → DividesEach g ts → scale (pos g) (quotients g ts) ≡ ts
unfolding quotients
quotients_exact g [] h = refl
quotients_exact g (t ∷ ts) h =
    ap (λ z. (t.0, z) ∷ scale (pos g) (quotients g ts)) (quotient_exact g t.1 h.0) ∙ ap (λ z. (t.0, t.1) ∷ z) (quotients_exact g ts h.1)

pub divided : ℕ → Equation → Equation
divided g raw = equation (quotient g raw.den) (quotient g raw.constant) (quotients g raw.entries)

pub divided_exact : (g : ℕ) (raw : Equation) → Divides g raw → scaled (pos g) (divided g raw) ≡ raw
unfolding divided
divided_exact g raw h =
    ap (λ z. equation z (quotient g raw.constant *ℤ pos g) (scale (pos g) (quotients g raw.entries))) (quotient_exact g raw.den h.den)
    ∙ ap (λ z. equation raw.den z (scale (pos g) (quotients g raw.entries))) (quotient_exact g raw.constant h.constant)
    ∙ ap (λ z. equation raw.den raw.constant z) (quotients_exact g raw.entries h.entries)

-- sizes of quotients
factor_above : (a : ℤ) (g : ℕ) → 0 < unsigned_abs (a *ℤ pos g) → 0 < unsigned_abs a
factor_above (pos zero) g h = absurd (omega (arith, h))
factor_above (pos (suc n)) g h = omega arith
factor_above (negsuc n) g h = omega arith

factor_small : (a : ℤ) (g bound : ℕ) → 0 < g → unsigned_abs (a *ℤ pos g) < bound → unsigned_abs a < bound
factor_small a g bound over h =
    let m : unsigned_abs a * 1 ≤ unsigned_abs a * g = mul-le-mul (omega arith) (omega (arith, over)) in
    omega (arith, m, unsigned_abs-mul a (pos g), h)

pub unscaled_terms : (bound g low high : ℕ) (ts : List (ℕ × ℤ)) → 0 < g → AreTerms bound low high (scale (pos g) ts) → AreTerms bound low high ts
unscaled_terms bound g low high [] over all = all
unscaled_terms bound g low high (t ∷ ts) over all = (all.0, factor_above t.1 g all.1, factor_small t.1 g bound over all.2, unscaled_terms bound g (t.0 + 1) high ts over all.3)

pub narrow_terms : (bound low high : ℕ) (ts : List (ℕ × ℤ)) → NarrowEach ts → AreTerms bound low high ts → AreTerms (2 ^ 63) low high ts
narrow_terms bound low high [] h all = all
narrow_terms bound low high (t ∷ ts) h all = (all.0, all.1, h.0, narrow_terms bound (t.0 + 1) high ts h.1 all.3)

pub unscaled_row : (bound g places : ℕ) (q : Equation) → 0 < g → IsRow bound places (scaled (pos g) q) → IsRow bound places q
unscaled_row bound g places q over is = record {
  positive = sign_of q.den (q.den *ℤ pos g) g refl is.positive;
  den = factor_small q.den g bound over is.den;
  constant = factor_small q.constant g bound over is.constant;
  entries = unscaled_terms bound g 0 places q.entries over is.entries;
}

not_below : (a g n : ℕ) → 0 < g → n * g ≤ a * g → a < n → ⊥
not_below a g n over h lt =
    let m : (a + 1) * g ≤ n * g = mul-le-mul (omega (arith, lt)) (omega arith) in
    omega (arith, h, m, over)

-- a number that is too large for its divisor makes the row wide
pub wide_made : (places at g : ℕ) (raw : Equation) → 0 < g → IsRow (2 ^ 127) places raw → IsCommon g raw → 2 ^ 63 * g ≤ unsigned_abs (number_at places raw at) → IsWideAt places at raw
wide_made places at g raw over is common large =
    let exact = divided_exact g raw common.0 in
    let size : unsigned_abs (number_at places raw at) ≡ unsigned_abs (number_at places (divided g raw) at) * g = ap (λ (q : Equation). unsigned_abs (number_at places q at)) (sym exact) ∙ ap unsigned_abs (number_scaled places at (divided g raw) (pos g)) ∙ unsigned_abs-mul (number_at places (divided g raw) at) (pos g) in
    record {
      made = divided g raw;
      row = unscaled_row (2 ^ 127) g places (divided g raw) over (subst (λ (q : Equation). IsRow (2 ^ 127) places q) (sym exact) is);
      of = reduced_of raw (divided g raw) g over exact common.1;
      wide = λ small. not_below (unsigned_abs (number_at places (divided g raw) at)) g (2 ^ 63) over (subst (λ (n : ℕ). 2 ^ 63 * g ≤ n) size large) small;
    }

-- what a row says, it says divided
again : (a b : ℤ) → (a -ℤ b) +ℤ b ≡ a
again a b = omega (arith, ints)

-- a factor in the middle goes to the end
pub to_end : (a b c : ℤ) → (a *ℤ c) *ℤ b ≡ (a *ℤ b) *ℤ c
to_end a b c = mul_assoc a c b ∙ ap (λ z. a *ℤ z) (mul_comm c b) ∙ sym (mul_assoc a b c)

pub cancel : (a b : ℤ) (g : ℕ) → 0 < g → a *ℤ pos g ≡ b *ℤ pos g → a ≡ b
cancel a b g over e =
    let s : (a -ℤ b) *ℤ pos g ≡ pos 0 = omega (arith, ints, e, mul_add_right (pos g) (a -ℤ b) b, ap (λ z. z *ℤ pos g) (again a b)) in
    let u : unsigned_abs (a -ℤ b) * g ≡ 0 = sym (unsigned_abs-mul (a -ℤ b) (pos g)) ∙ ap unsigned_abs s in
    let m : unsigned_abs (a -ℤ b) * 1 ≤ unsigned_abs (a -ℤ b) * g = mul-le-mul (omega arith) (omega (arith, over)) in
    omega (arith, ints, u, m)

sides_scaled : (q : Equation) (g : ℕ) (one : ℤ) (v : ℕ → ℤ) → weigh (scale (pos g) q.entries) v +ℤ ((q.constant *ℤ pos g) *ℤ one) ≡ (weigh q.entries v +ℤ (q.constant *ℤ one)) *ℤ pos g
sides_scaled q g one v =
    omega (arith, ints, weigh_scale (pos g) q.entries v, to_end q.constant one (pos g), mul_add_right (pos g) (weigh q.entries v) (q.constant *ℤ one))

-- a row and its multiple say the same
pub holds_scaled : (q : Equation) (g : ℕ) (f one : ℤ) (v : ℕ → ℤ) → Holds q f v one → Holds (scaled (pos g) q) f v one
holds_scaled q g f one v h = to_end q.den f (pos g) ∙ ap (λ z. z *ℤ pos g) h ∙ sym (sides_scaled q g one v)

pub holds_unscaled : (q : Equation) (g : ℕ) (f one : ℤ) (v : ℕ → ℤ) → 0 < g → Holds (scaled (pos g) q) f v one → Holds q f v one
holds_unscaled q g f one v over h =
    cancel (q.den *ℤ f) (weigh q.entries v +ℤ (q.constant *ℤ one)) g over (sym (to_end q.den f (pos g)) ∙ h ∙ sides_scaled q g one v)

pub holds_reduced : (raw made : Equation) (f one : ℤ) (v : ℕ → ℤ) → IsReducedOf raw made → Holds raw f v one → Holds made f v one
holds_reduced raw q f one v r h = holds_unscaled q r.g f one v r.positive (subst (λ (x : Equation). Holds x f v one) (sym r.exact) h)

-- the row that `reduce` makes of its parts
pub reduced_row : (places : ℕ) (den constant sd sc g : ℤ) (entries items : List (ℕ × ℤ)) (row : Equation) → IsCommon (unsigned_abs g) (equation den constant entries) → pos 0 <ℤ g → sd *ℤ g ≡ den → sc *ℤ g ≡ constant → scale g items ≡ entries → row ≡ equation sd sc items → IsReducedOf (equation den constant entries) row
reduced_row places den constant sd sc g entries items row common over ed ec ee er =
    let exact : scaled g (equation sd sc items) ≡ equation den constant entries = rw (ed, ec, ee) refl in
    let exact' : scaled (pos (unsigned_abs g)) (equation sd sc items) ≡ equation den constant entries = subst (λ (z : ℤ). scaled z (equation sd sc items) ≡ equation den constant entries) (is_pos g over) exact in
    subst (λ (q : Equation). IsReducedOf (equation den constant entries) q) (sym er) (reduced_of (equation den constant entries) (equation sd sc items) (unsigned_abs g) (omega (arith, ints, over)) exact' common.1)

pub narrow_row : (places : ℕ) (den sd sc g : ℤ) (items : List (ℕ × ℤ)) (row : Equation) → pos 0 <ℤ den → pos 0 <ℤ g → sd *ℤ g ≡ den → unsigned_abs sd < 2 ^ 63 → unsigned_abs sc < 2 ^ 63 → AreTerms (2 ^ 63) 0 places items → row ≡ equation sd sc items → IsRow (2 ^ 63) places row
narrow_row places den sd sc g items row positive over ed hd hc terms er =
    let e : sd *ℤ pos (unsigned_abs g) ≡ den = subst (λ (z : ℤ). sd *ℤ z ≡ den) (is_pos g over) ed in
    subst (λ (q : Equation). IsRow (2 ^ 63) places q) (sym er) (record { positive = sign_of sd den (unsigned_abs g) e positive; den = hd; constant = hc; entries = terms })

-- the same where z is that number
pub wide_from : (places at : ℕ) (raw : Equation) (g z : ℤ) → IsRow (2 ^ 127) places raw → IsCommon (unsigned_abs g) raw → pos 0 <ℤ g → number_at places raw at ≡ z → 2 ^ 63 * unsigned_abs g ≤ unsigned_abs z → IsWideAt places at raw
wide_from places at raw g z is common over e large =
    wide_made places at (unsigned_abs g) raw (omega (arith, ints, over)) is common (subst (λ (y : ℤ). 2 ^ 63 * unsigned_abs g ≤ unsigned_abs y) (sym e) large)
