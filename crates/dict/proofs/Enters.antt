-- The row of the form that enters.
use Rattle.std.proofs.Common.{ℕ, zero, suc, ◌+◌, ◌≤◌, ◌<◌, ◌≡◌, ◌∙◌, refl, sym, ap, subst, arith, ℤ, pos, negsuc, ◌+ℤ◌, ◌*ℤ◌, ◌<ℤ◌, neg_ℤ, List, [], ◌∷◌, ◌++◌, length, drop, get_or, append_assoc, cond, eqb, Bool, true, false}
use mathlib.Core.Bool.{not}
use lib.Signed.{lt_z}
use Rattle.std.proofs.lemmas.Int.{ints}
use Rattle.std.proofs.lemmas.Bool.{eqb-true}
use Rattle.std.proofs.Math.IntN.{zero-*ℤ, *ℤ-zero, +ℤ_idl}
use Rattle.std.specs.Prelude.{unsigned_abs}
use Prim.Native.Nat.{◌∣◌}
use Rattle.lp_base.proofs.Ring.{mul_add_right}
use Rattle.lpcc_case.specs.Points.{coefficient}
use Rattle.dict.specs.Terms.{weigh, AreTerms, without}
use Rattle.dict.specs.Equations.{Equation, equation, IsRow, IsReduced, DividesEach}
use Rattle.dict.specs.Exchanges.{Enters, turn, entered}
use Rattle.dict.proofs.SparseSums.{coefficient_below, past_end, unroll, weigh_split, weigh_same, without_above}
use Rattle.dict.proofs.Commons.{append_none}

-- solved for the form that enters, with the sign that makes its denominator positive
abbrev pub entering_row : Bool → ℕ → Equation → Equation
entering_row flip e q = equation (turn (not flip) (coefficient q.entries e)) (turn flip q.constant) (entered flip e q.den q.entries)

-- the loop
pub enter_step : (flip : Bool) (e : ℕ) (den : ℤ) (ts : List (ℕ × ℤ)) (i : ℕ) (t : ℕ × ℤ) (n : ℤ) (out out' : List (ℕ × ℤ)) → i < length ts → t ≡ get_or ts i (0, pos 0) → n ≡ cond (eqb t.0 e) (turn (not flip) den) (turn flip t.1) → out' ≡ out ++ (t.0, n) ∷ [] → out ++ entered flip e den (drop i ts) ≡ entered flip e den ts → out' ++ entered flip e den (drop (i + 1) ts) ≡ entered flip e den ts
enter_step flip e den ts i t n out out' h et en eo before =
    let a : entered flip e den (drop i ts) ≡ (t.0, n) ∷ entered flip e den (drop (i + 1) ts) = rw (unroll ts i t h et, en) refl in
    rw (eo, append_assoc out ((t.0, n) ∷ []) (entered flip e den (drop (i + 1) ts))) (ap (λ z. out ++ z) (sym a) ∙ before)

pub enter_done : (flip : Bool) (e : ℕ) (den : ℤ) (ts out : List (ℕ × ℤ)) (i : ℕ) → length ts ≤ i → out ++ entered flip e den (drop i ts) ≡ entered flip e den ts → out ≡ entered flip e den ts
enter_done flip e den ts out i h before = sym (append_none out) ∙ subst (λ (z : List (ℕ × ℤ)). out ++ entered flip e den z ≡ entered flip e den ts) (past_end ts i h) before

-- signs
turn_abs : (b : Bool) (z : ℤ) → unsigned_abs (turn b z) ≡ unsigned_abs z
turn_abs true z = omega (arith, ints)
turn_abs false z = refl

pub neg_times : (a b : ℤ) → neg_ℤ a *ℤ b ≡ neg_ℤ (a *ℤ b)
neg_times a b =
    let none : neg_ℤ a +ℤ a ≡ pos 0 = omega (arith, ints) in
    let s : (neg_ℤ a +ℤ a) *ℤ b ≡ pos 0 = rw none (zero-*ℤ b) in
    omega (arith, ints, sym (mul_add_right b (neg_ℤ a) a) ∙ s)

turn_times : (b : Bool) (x y : ℤ) → turn b x *ℤ y ≡ turn b (x *ℤ y)
turn_times true x y = neg_times x y
turn_times false x y = refl

turn_add : (b : Bool) (x y : ℤ) → turn b (x +ℤ y) ≡ turn b x +ℤ turn b y
turn_add true x y = omega (arith, ints)
turn_add false x y = refl

-- where e is below all places
not_here : (j e : ℕ) (x y : ℤ) → e < j → cond (eqb j e) x y ≡ y
not_here j e x y h = grind arith

enter_absent : (bound low high : ℕ) (flip : Bool) (e : ℕ) (den : ℤ) (ts : List (ℕ × ℤ)) (w : ℕ → ℤ) → AreTerms bound low high ts → e < low → weigh (entered flip e den ts) w ≡ turn flip (weigh ts (without e w))
enter_absent bound low high true e den [] w all h = refl
enter_absent bound low high false e den [] w all h = refl
enter_absent bound low high flip e den (t ∷ ts) w all h =
    let below : e < t.0 = omega (arith, all.0) in
    let r = enter_absent bound (t.0 + 1) high flip e den ts w all.3 (omega (arith, below)) in
    rw (not_here t.0 e (turn (not flip) den) (turn flip t.1) below, r, without_above e t.0 w below, turn_times flip t.1 (w t.0)) (sym (turn_add flip (t.1 *ℤ w t.0) (weigh ts (without e w))))

-- where e has a term
present_by : (b : Bool) (bound low high : ℕ) (flip : Bool) (e : ℕ) (den : ℤ) (t : ℕ × ℤ) (ts : List (ℕ × ℤ)) (w : ℕ → ℤ) → AreTerms bound low high (t ∷ ts) → eqb t.0 e ≡ b → (cond b t.1 (pos 0) +ℤ coefficient ts e ≡ pos 0 → ⊥) → ((coefficient ts e ≡ pos 0 → ⊥) → weigh (entered flip e den ts) w ≡ turn (not flip) (den *ℤ w e) +ℤ turn flip (weigh ts (without e w))) → (cond b (turn (not flip) den) (turn flip t.1) *ℤ w t.0) +ℤ weigh (entered flip e den ts) w ≡ turn (not flip) (den *ℤ w e) +ℤ turn flip ((t.1 *ℤ cond b (pos 0) (w t.0)) +ℤ weigh ts (without e w))
present_by true bound low high flip e den t ts w all is some rest =
    let same = eqb-true t.0 e is in
    let r = enter_absent bound (t.0 + 1) high flip e den ts w all.3 (omega (arith, same)) in
    rw (r, *ℤ-zero t.1, +ℤ_idl (weigh ts (without e w)), turn_times (not flip) den (w t.0)) (ap (λ j. turn (not flip) (den *ℤ w j) +ℤ turn flip (weigh ts (without e w))) same)
present_by false bound low high flip e den t ts w all is some rest =
    let none : (coefficient ts e ≡ pos 0 → ⊥) = λ z. some (rw z refl) in
    rw (rest none, turn_times flip t.1 (w t.0), turn_add flip (t.1 *ℤ w t.0) (weigh ts (without e w))) (omega (arith, ints))

enter_present : (bound low high : ℕ) (flip : Bool) (e : ℕ) (den : ℤ) (ts : List (ℕ × ℤ)) (w : ℕ → ℤ) → AreTerms bound low high ts → (coefficient ts e ≡ pos 0 → ⊥) → weigh (entered flip e den ts) w ≡ turn (not flip) (den *ℤ w e) +ℤ turn flip (weigh ts (without e w))
enter_present bound low high flip e den [] w all some = absurd (some refl)
enter_present bound low high flip e den (t ∷ ts) w all some = present_by (eqb t.0 e) bound low high flip e den t ts w all refl some (enter_present bound (t.0 + 1) high flip e den ts w all.3)

-- den f = p v + rest + c, solved for p v
solved : (flip : Bool) (df pv rest c : ℤ) → df ≡ (pv +ℤ rest) +ℤ c → turn (not flip) pv ≡ (turn (not flip) df +ℤ turn flip rest) +ℤ turn flip c
solved true df pv rest c h = omega (arith, ints, h)
solved false df pv rest c h = omega (arith, ints, h)

pub enters : (bound high : ℕ) (flip : Bool) (e : ℕ) (row : Equation) → AreTerms bound 0 high row.entries → (coefficient row.entries e ≡ pos 0 → ⊥) → Enters e row (entering_row flip e row)
enters bound high flip e row all some f one v w same leaves here =
    let p = coefficient row.entries e in
    let rest = weigh row.entries (without e w) in
    let rest_is : weigh row.entries (without e v) ≡ rest = weigh_same row.entries (without e v) (without e w) same in
    let split : row.den *ℤ f ≡ ((p *ℤ v e) +ℤ rest) +ℤ (row.constant *ℤ one) = here ∙ ap (λ z. z +ℤ (row.constant *ℤ one)) (weigh_split row.entries e v ∙ ap (λ z. (p *ℤ v e) +ℤ z) rest_is) in
    let s = solved flip (row.den *ℤ f) (p *ℤ v e) rest (row.constant *ℤ one) split in
    rw (turn_times (not flip) p (v e), enter_present bound 0 high flip e row.den row.entries w all some, turn_times flip row.constant one, leaves) s

-- sizes
size_by : (b flip : Bool) (bound : ℕ) (den z : ℤ) → 0 < unsigned_abs den → unsigned_abs den < bound → 0 < unsigned_abs z → unsigned_abs z < bound → (0 < unsigned_abs (cond b (turn (not flip) den) (turn flip z))) × (unsigned_abs (cond b (turn (not flip) den) (turn flip z)) < bound)
size_by true flip bound den z hd kd hz kz = rw (turn_abs (not flip) den) (hd, kd)
size_by false flip bound den z hd kd hz kz = rw (turn_abs flip z) (hz, kz)

entered_terms : (bound low high : ℕ) (flip : Bool) (e : ℕ) (den : ℤ) (ts : List (ℕ × ℤ)) → 0 < unsigned_abs den → unsigned_abs den < bound → AreTerms bound low high ts → AreTerms bound low high (entered flip e den ts)
entered_terms bound low high flip e den [] hd kd all = all
entered_terms bound low high flip e den (t ∷ ts) hd kd all =
    let s = size_by (eqb t.0 e) flip bound den t.1 hd kd all.1 all.2 in
    (all.0, s.0, s.1, entered_terms bound (t.0 + 1) high flip e den ts hd kd all.3)

pub entered_row : (bound high : ℕ) (flip : Bool) (e : ℕ) (row : Equation) → IsRow bound high row → unsigned_abs (coefficient row.entries e) < bound → pos 0 <ℤ turn (not flip) (coefficient row.entries e) → IsRow bound high (entering_row flip e row)
entered_row bound high flip e row is small sign = record {
  positive = sign;
  den = rw (turn_abs (not flip) (coefficient row.entries e)) small;
  constant = rw (turn_abs flip row.constant) is.constant;
  entries = entered_terms bound 0 high flip e row.den row.entries (omega (arith, ints, is.positive)) is.den is.entries;
}

-- common divisors of the row that enters are common divisors of the row
abbrev pub DividesBack : ℕ → ℤ → List (ℕ × ℤ) → Type 0
DividesBack d den ts = (d ∣ unsigned_abs den) × DividesEach d ts

back_absent : (bound low high d : ℕ) (flip : Bool) (e : ℕ) (den : ℤ) (ts : List (ℕ × ℤ)) → AreTerms bound low high ts → e < low → DividesEach d (entered flip e den ts) → DividesEach d ts
back_absent bound low high d flip e den [] all h divides = tt
back_absent bound low high d flip e den (t ∷ ts) all h divides =
    let below : e < t.0 = omega (arith, all.0) in (
      subst (λ (n : ℕ). d ∣ n) (ap unsigned_abs (not_here t.0 e (turn (not flip) den) (turn flip t.1) below) ∙ turn_abs flip t.1) divides.0,
      back_absent bound (t.0 + 1) high d flip e den ts all.3 (omega (arith, below)) divides.1,
    )

back_by : (b : Bool) (bound low high d : ℕ) (flip : Bool) (e : ℕ) (den : ℤ) (t : ℕ × ℤ) (ts : List (ℕ × ℤ)) → AreTerms bound low high (t ∷ ts) → eqb t.0 e ≡ b → (cond b t.1 (pos 0) +ℤ coefficient ts e ≡ pos 0 → ⊥) → d ∣ unsigned_abs (cond b t.1 (pos 0) +ℤ coefficient ts e) → d ∣ unsigned_abs (cond b (turn (not flip) den) (turn flip t.1)) → DividesEach d (entered flip e den ts) → ((coefficient ts e ≡ pos 0 → ⊥) → d ∣ unsigned_abs (coefficient ts e) → DividesBack d den ts) → DividesBack d den (t ∷ ts)
back_by true bound low high d flip e den t ts all is some p head tail rest =
    let same = eqb-true t.0 e is in
    let z : coefficient ts e ≡ pos 0 = coefficient_below bound (t.0 + 1) high ts e all.3 (omega (arith, same)) in
    let one : t.1 +ℤ coefficient ts e ≡ t.1 = omega (arith, ints, z) in
    (subst (λ (n : ℕ). d ∣ n) (turn_abs (not flip) den) head, (subst (λ (n : ℕ). d ∣ n) (ap unsigned_abs one) p, back_absent bound (t.0 + 1) high d flip e den ts all.3 (omega (arith, same)) tail))
back_by false bound low high d flip e den t ts all is some p head tail rest =
    let one : pos 0 +ℤ coefficient ts e ≡ coefficient ts e = +ℤ_idl (coefficient ts e) in
    let r = rest (λ z. some (one ∙ z)) (subst (λ (n : ℕ). d ∣ n) (ap unsigned_abs one) p) in
    (r.0, (subst (λ (n : ℕ). d ∣ n) (turn_abs flip t.1) head, r.1))

back_present : (bound low high d : ℕ) (flip : Bool) (e : ℕ) (den : ℤ) (ts : List (ℕ × ℤ)) → AreTerms bound low high ts → (coefficient ts e ≡ pos 0 → ⊥) → d ∣ unsigned_abs (coefficient ts e) → DividesEach d (entered flip e den ts) → DividesBack d den ts
back_present bound low high d flip e den [] all some p divides = absurd (some refl)
back_present bound low high d flip e den (t ∷ ts) all some p divides =
    back_by (eqb t.0 e) bound low high d flip e den t ts all refl some p divides.0 divides.1 (λ s q. back_present bound (t.0 + 1) high d flip e den ts all.3 s q divides.1)

pub entered_reduced : (bound high : ℕ) (flip : Bool) (e : ℕ) (row : Equation) → AreTerms bound 0 high row.entries → (coefficient row.entries e ≡ pos 0 → ⊥) → IsReduced row → IsReduced (entering_row flip e row)
entered_reduced bound high flip e row all some reduced d divides =
    let b = back_present bound 0 high d flip e row.den row.entries all some (subst (λ (n : ℕ). d ∣ n) (turn_abs (not flip) (coefficient row.entries e)) divides.den) divides.entries in
    reduced d (record {
      den = b.0;
      constant = subst (λ (n : ℕ). d ∣ n) (turn_abs flip row.constant) divides.constant;
      entries = b.1;
    })

-- the sign is the one that makes the denominator positive
pub sign_is : (b : Bool) (p : ℤ) → lt_z (pos 0) p ≡ b → (p ≡ pos 0 → ⊥) → pos 0 <ℤ turn (not b) p
sign_is b (pos zero) h some = absurd (some refl)
sign_is true (pos (suc n)) h some = omega (arith, ints)
sign_is false (pos (suc n)) h some = absurd (omega (arith, ints, h))
sign_is true (negsuc n) h some = absurd (omega (arith, ints, h))
sign_is false (negsuc n) h some = omega (arith, ints)
