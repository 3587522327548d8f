-- A row over independent forms is determined but for a factor, and where it is reduced it divides every other.
use Rattle.std.proofs.Common.{ℕ, zero, suc, ◌+◌, ◌*◌, ◌/◌, ◌%◌, ◌≤◌, ◌<◌, ◌≡◌, ◌∙◌, refl, sym, ap, subst, arith, ℤ, pos, negsuc, ◌+ℤ◌, ◌-ℤ◌, ◌*ℤ◌, ◌<ℤ◌, neg_ℤ, List, [], ◌∷◌, ◌++◌, cond, eqb}
use Rattle.std.specs.List.{AllByRecursion}
use Rattle.std.specs.Int.{IsGcd}
use Rattle.std.specs.Prelude.{unsigned_abs, ⊤}
use Rattle.std.proofs.lemmas.Int.{ints, unsigned_abs-mul}
use Rattle.std.proofs.lemmas.Nat.Gcd.{dvd_refl, dvd_trans, dvd-zero, IsGcd-from_mod, IsGcd-from_zero}
use Rattle.std.proofs.Math.Nat.{div-add-mod, mod-lt, dvd-add_iff_right, dvd-mul_right_of_dvd, dvd-mul_left, div-mul_cancel}
use Rattle.std.proofs.Math.IntN.{zero-*ℤ, *ℤ-zero, +ℤ_idl}
use Prim.Native.Nat.{◌∣◌}
use Rattle.lp_base.proofs.Ring.{mul_add_right, mul_assoc, mul_comm}
use Rattle.lpcc_case.specs.Points.{coefficient}
use Rattle.dict.specs.Terms.{weigh, only, without, AreTerms}
use Rattle.dict.specs.Equations.{Equation, Holds, DividesEach, IsReduced, IsRow, IsMultiple, scale}
use Rattle.dict.specs.Forms.{Affine, IsRowOf, AreIndependent}
use Rattle.dict.proofs.SparseSums.{weigh_append, weigh_only, weigh_scale, weigh_split, times_one, without_same, coefficient_at, coefficient_below, terms_below}
use Rattle.lpcc_case.proofs.Shares.{share_other}
use Rattle.dict.proofs.Reduces.{cancel, to_end}
use Rattle.dict.proofs.Enters.{neg_times}
use Rattle.dict.proofs.Machine.{is_pos}
use Rattle.dict.proofs.Pivots.{by_lt, by_eq}
use Rattle.dict.proofs.Independence.{all_scale, all_append}

-- v without its first n places
abbrev pub mask : ℕ → (ℕ → ℤ) → ℕ → ℤ
mask zero v = v
mask (suc n) v = without n (mask n v)

masked : (ts : List (ℕ × ℤ)) (n : ℕ) (v : ℕ → ℤ) → ((j : ℕ) → coefficient ts j ≡ pos 0) → weigh ts v ≡ weigh ts (mask n v)
masked ts zero v none = refl
masked ts (suc n) v none = masked ts n v none ∙ weigh_split ts n (mask n v) ∙ ap (λ z. (z *ℤ mask n v n) +ℤ weigh ts (without n (mask n v))) (none n) ∙ ap (λ z. z +ℤ weigh ts (without n (mask n v))) (zero-*ℤ (mask n v n)) ∙ +ℤ_idl (weigh ts (without n (mask n v)))

without_here : (n j : ℕ) (v : ℕ → ℤ) → v j ≡ pos 0 → without n v j ≡ pos 0
without_here n j v h = grind arith

by_less : (j n : ℕ) → j < suc n → (j ≡ n → ⊥) → j < n
by_less j n h other = omega (arith, h, other)

mask_zero : (n j : ℕ) (v : ℕ → ℤ) → j < n → mask n v j ≡ pos 0
mask_zero zero j v h = absurd (omega arith)
mask_zero (suc n) j v h = by_eq j n (λ e. ap (λ i. without n (mask n v) i) e ∙ without_same n (mask n v)) (λ other. without_here n j (mask n v) (mask_zero n j v (by_less j n h other)))

weigh_zero : (ts : List (ℕ × ℤ)) (n : ℕ) (w : ℕ → ℤ) → AllByRecursion (λ t. t.0 < n) ts → ((j : ℕ) → j < n → w j ≡ pos 0) → weigh ts w ≡ pos 0
weigh_zero [] n w all none = refl
weigh_zero (t ∷ ts) n w all none = omega (arith, ints, ap (λ z. t.1 *ℤ z) (none t.0 all.0) ∙ *ℤ-zero t.1, weigh_zero ts n w all.1 none)

-- with no coefficient there is no sum
pub no_sum : (ts : List (ℕ × ℤ)) (n : ℕ) (v : ℕ → ℤ) → AllByRecursion (λ t. t.0 < n) ts → ((j : ℕ) → coefficient ts j ≡ pos 0) → weigh ts v ≡ pos 0
no_sum ts n v all none = masked ts n v none ∙ weigh_zero ts n (mask n v) all (λ j h. mask_zero n j v h)

-- two rows are the same but for a factor
pub record IsSameRow (q m : Equation) : Type 0 where
  pub constant : q.constant *ℤ m.den ≡ m.constant *ℤ q.den
  pub entries : (j : ℕ) → coefficient q.entries j *ℤ m.den ≡ coefficient m.entries j *ℤ q.den

-- the difference of the two rows, each times the other's denominator
abbrev pub apart : Equation → Equation → List (ℕ × ℤ)
apart q m = scale m.den q.entries ++ scale (neg_ℤ q.den) m.entries

apart_is : (q m : Equation) (v : ℕ → ℤ) → weigh (apart q m) v ≡ (weigh q.entries v *ℤ m.den) -ℤ (weigh m.entries v *ℤ q.den)
apart_is q m v =
    let n : weigh m.entries v *ℤ neg_ℤ q.den ≡ neg_ℤ (weigh m.entries v *ℤ q.den) = mul_comm (weigh m.entries v) (neg_ℤ q.den) ∙ neg_times q.den (weigh m.entries v) ∙ ap neg_ℤ (mul_comm q.den (weigh m.entries v)) in
    omega (arith, ints, weigh_append (scale m.den q.entries) (scale (neg_ℤ q.den) m.entries) v, weigh_scale m.den q.entries v, weigh_scale (neg_ℤ q.den) m.entries v, n)

apart_at : (q m : Equation) (j : ℕ) → coefficient (apart q m) j ≡ (coefficient q.entries j *ℤ m.den) -ℤ (coefficient m.entries j *ℤ q.den)
apart_at q m j =
    sym (weigh_only (apart q m) j)
    ∙ apart_is q m (only j)
    ∙ ap (λ z. (z *ℤ m.den) -ℤ (weigh m.entries (only j) *ℤ q.den)) (weigh_only q.entries j)
    ∙ ap (λ z. (coefficient q.entries j *ℤ m.den) -ℤ (z *ℤ q.den)) (weigh_only m.entries j)

-- both rows at one place
crossed : (q m : Equation) (f one : ℤ) (v : ℕ → ℤ) → Holds q f v one → Holds m f v one → (weigh q.entries v *ℤ m.den) +ℤ ((q.constant *ℤ one) *ℤ m.den) ≡ (weigh m.entries v *ℤ q.den) +ℤ ((m.constant *ℤ one) *ℤ q.den)
crossed q m f one v hq hm =
    let a : (q.den *ℤ f) *ℤ m.den ≡ (m.den *ℤ f) *ℤ q.den = mul_comm (q.den *ℤ f) m.den ∙ sym (mul_assoc m.den q.den f) ∙ to_end m.den f q.den in
    sym (mul_add_right m.den (weigh q.entries v) (q.constant *ℤ one)) ∙ ap (λ z. z *ℤ m.den) (sym hq) ∙ a ∙ ap (λ z. z *ℤ q.den) hm ∙ mul_add_right q.den (weigh m.entries v) (m.constant *ℤ one)

nowhere : ℕ → ℤ
nowhere j = pos 0

pub determined : (n : ℕ) (q m : Equation) (f : Affine) (g : ℕ → Affine) → AreIndependent n g → AllByRecursion (λ t. t.0 < n) q.entries → AllByRecursion (λ t. t.0 < n) m.entries → IsRowOf q f g → IsRowOf m f g → IsSameRow q m
determined n q m f g independent bq bm hq hm =
    let all : AllByRecursion (λ t. t.0 < n) (apart q m) = all_append n (scale m.den q.entries) (scale (neg_ℤ q.den) m.entries) (all_scale n m.den q.entries bq) (all_scale n (neg_ℤ q.den) m.entries bm) in
    let sum : (x : ℕ → ℤ) → weigh (apart q m) (λ j. g j x (pos 0)) ≡ pos 0 = λ x.
    let c = crossed q m (f x (pos 0)) (pos 0) (λ j. g j x (pos 0)) (hq x (pos 0)) (hm x (pos 0)) in
    let y : (q.constant *ℤ pos 0) *ℤ m.den ≡ pos 0 = ap (λ z. z *ℤ m.den) (*ℤ-zero q.constant) ∙ zero-*ℤ m.den in
    let z : (m.constant *ℤ pos 0) *ℤ q.den ≡ pos 0 = ap (λ z. z *ℤ q.den) (*ℤ-zero m.constant) ∙ zero-*ℤ q.den in
    let e = apart_is q m (λ j. g j x (pos 0)) in
    omega (arith, ints, c, y, z, e) in
    let none = independent (apart q m) all sum in
    record {
      constant =
          let v : ℕ → ℤ = λ j. g j nowhere (pos 1) in
          let c = crossed q m (f nowhere (pos 1)) (pos 1) v (hq nowhere (pos 1)) (hm nowhere (pos 1)) in
          let s = sym (apart_is q m v) ∙ no_sum (apart q m) n v all none in
          let y : (q.constant *ℤ pos 1) *ℤ m.den ≡ q.constant *ℤ m.den = ap (λ z. z *ℤ m.den) (times_one q.constant) in
          let z : (m.constant *ℤ pos 1) *ℤ q.den ≡ m.constant *ℤ q.den = ap (λ z. z *ℤ q.den) (times_one m.constant) in
          omega (arith, ints, c, s, y, z);
      entries = λ j.
          let s = sym (apart_at q m j) ∙ none j in
          omega (arith, ints, s);
    }

-- a common divisor g of a and b that goes with a factor k: what divides k a and k b divides k g
pub record Bezout (a b : ℕ) : Type 0 where
  pub g : ℕ
  pub is : IsGcd a b g
  pub times : (d k : ℕ) → d ∣ k * a → d ∣ k * b → d ∣ k * g

dvd_mod : (d k a b : ℕ) → d ∣ k * a → d ∣ k * b → d ∣ k * (a % b)
dvd_mod d k a b h i =
    let part : d ∣ (k * b) * (a / b) = dvd-mul_right_of_dvd d i (a / b) in
    let sum : k * a ≡ (k * b) * (a / b) + k * (a % b) = omega (arith, ap (λ n. k * n) (div-add-mod a b)) in
    (dvd-add_iff_right d part).1 (subst (λ (n : ℕ). d ∣ n) sum h)

less : (r b fuel : ℕ) → r < suc b → suc b < suc fuel → r < fuel
less r b fuel h k = omega (arith, h, k)

pub bezout : (fuel a b : ℕ) → b < fuel → Bezout a b
bezout zero a b h = absurd (omega arith)
bezout (suc fuel) a zero h = record { g = a; is = IsGcd-from_zero a 0 refl; times = λ d k x y. x }
bezout (suc fuel) a (suc b) h =
    let r = bezout fuel (suc b) (a % suc b) (less (a % suc b) b fuel (mod-lt a (omega arith)) h) in
    record {
      g = r.g;
      is = IsGcd-from_mod a (suc b) r.g r.is;
      times = λ d k x y. r.times d k y (dvd_mod d k a (suc b) x y);
    }

abbrev pub EachTimes : ℕ → ℕ → List (ℕ × ℤ) → Type 0
EachTimes d k [] = ⊤
EachTimes d k (t ∷ ts) = (d ∣ k * unsigned_abs t.1) × EachTimes d k ts

-- the same of s and the terms
pub record Common (s : ℕ) (ts : List (ℕ × ℤ)) : Type 0 where
  pub g : ℕ
  pub first : g ∣ s
  pub each : DividesEach g ts
  pub times : (d k : ℕ) → d ∣ k * s → EachTimes d k ts → d ∣ k * g

pub common_of : (s : ℕ) (ts : List (ℕ × ℤ)) → Common s ts
common_of s [] = record { g = s; first = dvd_refl s; each = tt; times = λ d k h all. h }
common_of s (t ∷ ts) =
    let b = bezout (unsigned_abs t.1 + 1) s (unsigned_abs t.1) (omega arith) in
    let r = common_of b.g ts in
    record {
      g = r.g;
      first = dvd_trans r.g r.first b.is.0;
      each = (dvd_trans r.g r.first b.is.1, r.each);
      times = λ d k h all. r.times d k (b.times d k h all.0) all.1;
    }

-- with no common divisor, what divides k times each number divides k
pub divides_factor : (q : Equation) (d k : ℕ) → IsReduced q → d ∣ k * unsigned_abs q.den → d ∣ k * unsigned_abs q.constant → EachTimes d k q.entries → d ∣ k
divides_factor q d k reduced hd hc each =
    let b = bezout (unsigned_abs q.constant + 1) (unsigned_abs q.den) (unsigned_abs q.constant) (omega arith) in
    let r = common_of b.g q.entries in
    let one : r.g ≡ 1 = reduced r.g (record { den = dvd_trans r.g r.first b.is.0; constant = dvd_trans r.g r.first b.is.1; entries = r.each }) in
    let h : d ∣ k * 1 = subst (λ (g : ℕ). d ∣ k * g) one (r.times d k (b.times d k hd hc) each) in
    let e : k * 1 ≡ k = omega arith in
    subst (λ (n : ℕ). d ∣ n) e h

zero_times : (k : ℕ) → 0 ≡ k * unsigned_abs (pos 0)
zero_times k = omega arith

pub later : (p j : ℕ) (z : ℤ) (ts : List (ℕ × ℤ)) → p + 1 ≤ j → coefficient ((p, z) ∷ ts) j ≡ coefficient ts j
later p j z ts h =
    let e : cond (eqb p j) z (pos 0) ≡ pos 0 = share_other p j z (λ eq. omega (arith, h, eq)) in
    omega (arith, ints, e)

some_times : (q d k : ℕ) → 0 < k → q * d ≡ k → 0 < q
some_times zero d k h e = absurd (omega (arith, h, e))
some_times (suc q) d k h e = omega arith

pub each_times : (bound low high d k : ℕ) (ts : List (ℕ × ℤ)) → AreTerms bound low high ts → ((j : ℕ) → d ∣ k * unsigned_abs (coefficient ts j)) → EachTimes d k ts
each_times bound low high d k [] all h = tt
each_times bound low high d k (t ∷ ts) all h = (
  subst (λ (z : ℤ). d ∣ k * unsigned_abs z) (coefficient_at bound low high (t ∷ ts) 0 t (omega arith) refl all) (h t.0),
  each_times bound (t.0 + 1) high d k ts all.3
      (λ j.
      by_lt j (t.0 + 1)
      (λ lt. subst (λ (z : ℤ). d ∣ k * unsigned_abs z) (sym (coefficient_below bound (t.0 + 1) high ts j all.3 lt)) (subst (λ (n : ℕ). d ∣ n) (zero_times k) (dvd-zero d)))
      (λ ge. subst (λ (z : ℤ). d ∣ k * unsigned_abs z) (later t.0 j t.1 ts ge) (h j))),
)

-- a d' = b d says that d divides d' a
pub divides_cross : (a b d d' : ℤ) → a *ℤ d' ≡ b *ℤ d → unsigned_abs d ∣ unsigned_abs d' * unsigned_abs a
divides_cross a b d d' e =
    let x : unsigned_abs d' * unsigned_abs a ≡ unsigned_abs b * unsigned_abs d = omega (arith, sym (unsigned_abs-mul a d') ∙ ap unsigned_abs e ∙ unsigned_abs-mul b d) in
    subst (λ (n : ℕ). unsigned_abs d ∣ n) (sym x) (dvd-mul_left (unsigned_abs d) (unsigned_abs b))

pub whole : (d d' : ℤ) → pos 0 <ℤ d → pos 0 <ℤ d' → (q : ℕ) → q * unsigned_abs d ≡ unsigned_abs d' → d' ≡ d *ℤ pos q
whole (pos a) (pos b) h k q e = omega (arith, ints, e)
whole (negsuc a) d' h k q e = absurd (omega (arith, ints))
whole (pos a) (negsuc b) h k q e = absurd (omega (arith, ints))

pub quotient_of : (a b d d' : ℤ) (q : ℕ) → pos 0 <ℤ d → d' ≡ d *ℤ pos q → a *ℤ d' ≡ b *ℤ d → b ≡ a *ℤ pos q
quotient_of a b d d' q over e h =
    let x : b *ℤ d ≡ (a *ℤ pos q) *ℤ d = sym h ∙ ap (λ z. a *ℤ z) (e ∙ mul_comm d (pos q)) ∙ sym (mul_assoc a (pos q) d) in
    cancel b (a *ℤ pos q) (unsigned_abs d) (omega (arith, ints, over)) (subst (λ (z : ℤ). b *ℤ z ≡ (a *ℤ pos q) *ℤ z) (is_pos d over) x)

multiple : (bound high : ℕ) (q m : Equation) → pos 0 <ℤ m.den → IsRow bound high q → IsReduced q → IsSameRow q m → IsMultiple q m
multiple bound high q m hm is reduced same =
    let d = unsigned_abs q.den in
    let k = unsigned_abs m.den in
    let divides : d ∣ k = divides_factor q d k reduced (dvd-mul_left d k) (divides_cross q.constant m.constant q.den m.den same.constant) (each_times bound 0 high d k q.entries is.entries (λ j. divides_cross (coefficient q.entries j) (coefficient m.entries j) q.den m.den (same.entries j))) in
    let e : k / d * d ≡ k = div-mul_cancel d divides in
    let den : m.den ≡ q.den *ℤ pos (k / d) = whole q.den m.den is.positive hm (k / d) e in
    record {
      factor = k / d;
      positive = some_times (k / d) d k (omega (arith, ints, hm)) e;
      den = den;
      constant = quotient_of q.constant m.constant q.den m.den (k / d) is.positive den same.constant;
      entries = λ j. quotient_of (coefficient q.entries j) (coefficient m.entries j) q.den m.den (k / d) is.positive den (same.entries j);
    }

pub row_multiple : (n bound bound' : ℕ) (q m : Equation) (f : Affine) (g : ℕ → Affine) → AreIndependent n g → IsRow bound n q → IsReduced q → IsRow bound' n m → IsRowOf q f g → IsRowOf m f g → IsMultiple q m
row_multiple n bound bound' q m f g independent is reduced ism hq hm =
    multiple bound n q m ism.positive is reduced (determined n q m f g independent (terms_below bound 0 n q.entries is.entries) (terms_below bound' 0 n m.entries ism.entries) hq hm)
