-- Laws of sparse sums.
use Rattle.std.proofs.Common.{ℕ, zero, suc, ◌+◌, ◌≤◌, ◌<◌, ◌≡◌, ◌∙◌, refl, sym, ap, subst, arith, ℤ, pos, ◌+ℤ◌, ◌*ℤ◌, List, [], ◌∷◌, ◌++◌, length, drop, get_or, Bool, true, false, cond, eqb}
use Rattle.std.proofs.lemmas.Int.{ints}
use Rattle.std.proofs.lemmas.Bool.{eqb-true}
use Rattle.std.proofs.lemmas.List.{drop_more}
use Rattle.std.proofs.Math.IntN.{*ℤ-zero, +ℤ_idl, +ℤ_idr}
use Rattle.std.specs.Prelude.{unsigned_abs}
use Rattle.std.specs.List.{AllByRecursion}
use Rattle.lp_base.proofs.Ring.{mul_add_right, mul_add_left, mul_assoc, mul_comm}
use Rattle.lp_base.proofs.SumLaws.{sum_over-append}
use Rattle.lpcc_case.specs.Points.{coefficient}
use Rattle.lpcc_case.proofs.Shares.{share_at, share_after, share_before}
use Rattle.dict.specs.Terms.{weigh, only, without, AreTerms}
use Rattle.dict.specs.Equations.{scale}

pub times_one : (z : ℤ) → z *ℤ pos 1 ≡ z
times_one z = omega (arith, ints)

-- places
pub only_same : (k : ℕ) → only k k ≡ pos 1
only_same k = grind arith

pub only_apart : (k j : ℕ) → (j ≡ k → ⊥) → only k j ≡ pos 0
only_apart k j h = grind arith

pub without_same : (e : ℕ) (v : ℕ → ℤ) → without e v e ≡ pos 0
without_same e v = grind arith

pub without_apart : (e j : ℕ) (v : ℕ → ℤ) → (j ≡ e → ⊥) → without e v j ≡ v j
without_apart e j v h = grind arith

pub without_above : (e j : ℕ) (v : ℕ → ℤ) → e < j → without e v j ≡ v j
without_above e j v h = grind arith

-- the sum
pub weigh_append : (xs ys : List (ℕ × ℤ)) (v : ℕ → ℤ) → weigh (xs ++ ys) v ≡ weigh xs v +ℤ weigh ys v
weigh_append xs ys v = sum_over-append (λ (t : ℕ × ℤ). t.1 *ℤ v t.0) xs ys

pub weigh_end : (ts : List (ℕ × ℤ)) (t : ℕ × ℤ) (v : ℕ → ℤ) → weigh (ts ++ t ∷ []) v ≡ weigh ts v +ℤ (t.1 *ℤ v t.0)
weigh_end ts t v = weigh_append ts (t ∷ []) v ∙ ap (λ z. weigh ts v +ℤ z) (+ℤ_idr (t.1 *ℤ v t.0))

pub weigh_same : (ts : List (ℕ × ℤ)) (v w : ℕ → ℤ) → ((j : ℕ) → v j ≡ w j) → weigh ts v ≡ weigh ts w
weigh_same [] v w h = refl
weigh_same (t ∷ ts) v w h = omega (arith, ints, ap (λ z. t.1 *ℤ z) (h t.0), weigh_same ts v w h)

pub weigh_same_below : (n : ℕ) (ts : List (ℕ × ℤ)) (v w : ℕ → ℤ) → AllByRecursion (λ t. t.0 < n) ts → ((j : ℕ) → j < n → v j ≡ w j) → weigh ts v ≡ weigh ts w
weigh_same_below n [] v w all h = refl
weigh_same_below n (t ∷ ts) v w all h = omega (arith, ints, ap (λ z. t.1 *ℤ z) (h t.0 all.0), weigh_same_below n ts v w all.1 h)

pub weigh_none : (ts : List (ℕ × ℤ)) (v : ℕ → ℤ) → ((j : ℕ) → v j ≡ pos 0) → weigh ts v ≡ pos 0
weigh_none [] v h = refl
weigh_none (t ∷ ts) v h = omega (arith, ints, ap (λ z. t.1 *ℤ z) (h t.0) ∙ *ℤ-zero t.1, weigh_none ts v h)

split_by : (b : Bool) (e j : ℕ) (v : ℕ → ℤ) → eqb j e ≡ b → v j ≡ (cond b (pos 1) (pos 0) *ℤ v e) +ℤ cond b (pos 0) (v j)
split_by true e j v h = rw (eqb-true j e h) (omega (arith, ints))
split_by false e j v h = omega (arith, ints)

-- a worth is that at e, and that elsewhere
point_split : (e j : ℕ) (v : ℕ → ℤ) → v j ≡ (only e j *ℤ v e) +ℤ without e v j
point_split e j v = split_by (eqb j e) e j v refl

split_at : (ts : List (ℕ × ℤ)) (e : ℕ) (v : ℕ → ℤ) → weigh ts v ≡ (weigh ts (only e) *ℤ v e) +ℤ weigh ts (without e v)
split_at [] e v = omega (arith, ints)
split_at (t ∷ ts) e v =
    let p : t.1 *ℤ v t.0 ≡ (t.1 *ℤ (only e t.0 *ℤ v e)) +ℤ (t.1 *ℤ without e v t.0) = ap (λ z. t.1 *ℤ z) (point_split e t.0 v) ∙ mul_add_left t.1 (only e t.0 *ℤ v e) (without e v t.0) in
    let q = mul_assoc t.1 (only e t.0) (v e) in
    let r = mul_add_right (v e) (t.1 *ℤ only e t.0) (weigh ts (only e)) in
    omega (arith, ints, p, split_at ts e v, r, q)

-- a coefficient is the sum where one place is worth 1
share_by : (b : Bool) (z : ℤ) → z *ℤ cond b (pos 1) (pos 0) ≡ cond b z (pos 0)
share_by true z = times_one z
share_by false z = *ℤ-zero z

pub weigh_only : (ts : List (ℕ × ℤ)) (k : ℕ) → weigh ts (only k) ≡ coefficient ts k
weigh_only [] k = refl
weigh_only (t ∷ ts) k = omega (arith, ints, share_by (eqb t.0 k) t.1, weigh_only ts k)

pub weigh_split : (ts : List (ℕ × ℤ)) (e : ℕ) (v : ℕ → ℤ) → weigh ts v ≡ (coefficient ts e *ℤ v e) +ℤ weigh ts (without e v)
weigh_split ts e v = split_at ts e v ∙ ap (λ z. (z *ℤ v e) +ℤ weigh ts (without e v)) (weigh_only ts e)

pub weigh_scale : (g : ℤ) (ts : List (ℕ × ℤ)) (v : ℕ → ℤ) → weigh (scale g ts) v ≡ weigh ts v *ℤ g
weigh_scale g [] v = omega (arith, ints)
weigh_scale g (t ∷ ts) v =
    let head : (t.1 *ℤ g) *ℤ v t.0 ≡ (t.1 *ℤ v t.0) *ℤ g = mul_assoc t.1 g (v t.0) ∙ ap (λ z. t.1 *ℤ z) (mul_comm g (v t.0)) ∙ sym (mul_assoc t.1 (v t.0) g) in
    omega (arith, ints, head, weigh_scale g ts v, mul_add_right g (t.1 *ℤ v t.0) (weigh ts v))

-- terms in order
pub terms_order : (bound low high : ℕ) (ts : List (ℕ × ℤ)) → AreTerms bound low high ts → low ≤ high
terms_order bound low high [] h = h
terms_order bound low high (t ∷ ts) h = omega (arith, h.0, terms_order bound (t.0 + 1) high ts h.3)

pub terms_end : (bound low high at : ℕ) (z : ℤ) (ts : List (ℕ × ℤ)) → AreTerms bound low high ts → high ≤ at → 0 < unsigned_abs z → unsigned_abs z < bound → AreTerms bound low (at + 1) (ts ++ (at, z) ∷ [])
terms_end bound low high at z [] h le nz b = (omega (arith, h), nz, b, omega arith)
terms_end bound low high at z (t ∷ ts) h le nz b = (h.0, h.1, h.2, terms_end bound (t.0 + 1) high at z ts h.3 le nz b)

pub terms_higher : (bound low high more : ℕ) (ts : List (ℕ × ℤ)) → AreTerms bound low high ts → high ≤ more → AreTerms bound low more ts
terms_higher bound low high more [] h le = omega (arith, h)
terms_higher bound low high more (t ∷ ts) h le = (h.0, h.1, h.2, terms_higher bound (t.0 + 1) high more ts h.3 le)

pub terms_wider : (bound wide low high : ℕ) (ts : List (ℕ × ℤ)) → bound ≤ wide → AreTerms bound low high ts → AreTerms wide low high ts
terms_wider bound wide low high [] le h = h
terms_wider bound wide low high (t ∷ ts) le h = (h.0, h.1, omega (arith, h.2), terms_wider bound wide (t.0 + 1) high ts le h.3)

pub terms_below : (bound low high : ℕ) (ts : List (ℕ × ℤ)) → AreTerms bound low high ts → AllByRecursion (λ t. t.0 < high) ts
terms_below bound low high [] all = tt
terms_below bound low high (t ∷ ts) all = (omega (arith, terms_order bound (t.0 + 1) high ts all.3), terms_below bound (t.0 + 1) high ts all.3)

pub term_within : (bound low high : ℕ) (ts : List (ℕ × ℤ)) (i : ℕ) (t : ℕ × ℤ) → i < length ts → t ≡ get_or ts i (0, pos 0) → AreTerms bound low high ts → (low ≤ t.0) × (t.0 < high) × (unsigned_abs t.1 < bound) × (0 < unsigned_abs t.1)
term_within bound low high [] i t h e all = absurd (omega arith)
term_within bound low high (s ∷ ts) zero t h e all = rw e (all.0, omega (arith, terms_order bound (s.0 + 1) high ts all.3), all.2, all.1)
term_within bound low high (s ∷ ts) (suc i) t h e all =
    let r = term_within bound (s.0 + 1) high ts i t (omega arith) e all.3 in
    (omega (arith, r.0, all.0), r.1, r.2, r.3)

-- the number at a place
pub coefficient_below : (bound low high : ℕ) (ts : List (ℕ × ℤ)) (k : ℕ) → AreTerms bound low high ts → k < low → coefficient ts k ≡ pos 0
coefficient_below bound low high [] k all h = refl
coefficient_below bound low high (t ∷ ts) k all h =
    let e : cond (eqb t.0 k) t.1 (pos 0) ≡ pos 0 = share_after t.0 k t.1 (omega (arith, all.0)) in
    omega (arith, ints, e, coefficient_below bound (t.0 + 1) high ts k all.3 (omega (arith, all.0)))

pub coefficient_at : (bound low high : ℕ) (ts : List (ℕ × ℤ)) (i : ℕ) (t : ℕ × ℤ) → i < length ts → t ≡ get_or ts i (0, pos 0) → AreTerms bound low high ts → coefficient ts t.0 ≡ t.1
coefficient_at bound low high [] i t h e all = absurd (omega arith)
coefficient_at bound low high (s ∷ ts) zero t h e all =
    let r = coefficient_below bound (s.0 + 1) high ts s.0 all.3 (omega arith) in
    let one : cond (eqb s.0 s.0) s.1 (pos 0) ≡ s.1 = share_at s.0 s.1 in
    let both : coefficient (s ∷ ts) s.0 ≡ s.1 = omega (arith, ints, r, one) in
    subst (λ (u : ℕ × ℤ). coefficient (s ∷ ts) u.0 ≡ u.1) (sym e) both
coefficient_at bound low high (s ∷ ts) (suc i) t h e all =
    let at = term_within bound (s.0 + 1) high ts i t (omega arith) e all.3 in
    let none : cond (eqb s.0 t.0) s.1 (pos 0) ≡ pos 0 = share_before s.0 t.0 s.1 (omega (arith, at.0)) in
    omega (arith, ints, none, coefficient_at bound (s.0 + 1) high ts i t (omega arith) e all.3)

small_by : (b : Bool) (bound low high : ℕ) (t : ℕ × ℤ) (ts : List (ℕ × ℤ)) (e : ℕ) → AreTerms bound low high (t ∷ ts) → eqb t.0 e ≡ b → unsigned_abs (coefficient ts e) < bound → unsigned_abs (cond b t.1 (pos 0) +ℤ coefficient ts e) < bound
small_by true bound low high t ts e all h rest =
    let z : coefficient ts e ≡ pos 0 = coefficient_below bound (t.0 + 1) high ts e all.3 (omega (arith, eqb-true t.0 e h)) in
    rw (z, +ℤ_idr t.1) all.2
small_by false bound low high t ts e all h rest = rw (+ℤ_idl (coefficient ts e)) rest

pub coefficient_small : (bound low high : ℕ) (ts : List (ℕ × ℤ)) (e : ℕ) → 0 < bound → AreTerms bound low high ts → unsigned_abs (coefficient ts e) < bound
coefficient_small bound low high [] e some all = some
coefficient_small bound low high (t ∷ ts) e some all = small_by (eqb t.0 e) bound low high t ts e all refl (coefficient_small bound (t.0 + 1) high ts e some all.3)

-- one term of a list that is gone over
pub unroll : (xs : List (ℕ × ℤ)) (i : ℕ) (x : ℕ × ℤ) → i < length xs → x ≡ get_or xs i (0, pos 0) → drop i xs ≡ x ∷ drop (i + 1) xs
unroll xs i x h e = drop_more xs i (0, pos 0) h ∙ ap (λ z. z ∷ drop (i + 1) xs) (sym e)

pub past_end : (xs : List (ℕ × ℤ)) (i : ℕ) → length xs ≤ i → drop i xs ≡ []
past_end [] zero h = refl
past_end [] (suc i) h = refl
past_end (x ∷ xs) zero h = absurd (omega arith)
past_end (x ∷ xs) (suc i) h = past_end xs i (omega arith)

pub terms_from : (bound low high : ℕ) (ts : List (ℕ × ℤ)) (i : ℕ) → AreTerms bound low high ts → (from : ℕ) × AreTerms bound from high (drop i ts)
terms_from bound low high ts zero h = (low, h)
terms_from bound low high [] (suc i) h = (low, h)
terms_from bound low high (t ∷ ts) (suc i) h = terms_from bound (t.0 + 1) high ts i h.3
