-- Least common multiples, and the multiplier of fractions.
use Rattle.std.proofs.Common.{ℕ, zero, suc, ◌+◌, ◌*◌, ◌/◌, ◌%◌, ◌<◌, ◌≤◌, ◌≡◌, refl, sym, ap, subst, ◌∙◌, inl, inr, arith, pos, ◌≤ℤ◌, List, [], ◌∷◌, ◌++◌, All, Bool, true, false, eqb, ◌&&◌, ◌^◌, Option, None, Some}
use Prim.Native.Nat.{◌∣◌}
use Rattle.std.specs.Prelude.{IsTrue, MatchOption, unsigned_abs}
use Rattle.std.specs.Int.{IsGcd}
use Rattle.std.specs.List.{AllByRecursion}
use Rattle.std.proofs.lemmas.Bool.{and_parts, and_from, cases_Bool, cases_eq, cond-true, cond-false, eqb-true, eq-eqb}
use Rattle.std.proofs.lemmas.Int.{ints}
use Rattle.std.proofs.lemmas.List.Elements.{All-append, All-cons, All-from_recursion, All-nil, recursion_from_All}
use Rattle.std.proofs.lemmas.List.Folds.{list_all-append}
use Rattle.std.proofs.lemmas.Nat.Gcd.{dvd_trans, dvd-zero, dvd_antisymm, le_of_dvd, dvd_of_mod-eq-zero, mod-eq-zero_of_dvd, IsGcd-from_zero, IsGcd-from_mod}
use Rattle.std.proofs.Math.Nat.{one-dvd, mul-dvd-mul_left, mul-dvd-mul_right, dvd_of_mul-dvd-mul_left, dvd_of_mul-dvd-mul_right, dvd-mul_left, dvd-mul_right, dvd-mul_left_of_dvd, pos_of_dvd_of_pos, mul-div_cancel'}
use Rattle.lp_nums.specs.Fractions.{Fraction}
use Rattle.deck_case.specs.Multipliers.{ArePositive, IsLeastMultiplier, clears, first_from, multiplier, product_of_dens}
use Rattle.deck_case.specs.Steps.{IsLcm, IsNarrowMultiplier}

-- ---- the least common multiple

-- there is a greatest common divisor
some_gcd : (fuel a b : ℕ) → b < fuel → (g : ℕ) × IsGcd a b g
some_gcd zero a b l = absurd (omega arith)
some_gcd (suc fuel) a zero l = (a, IsGcd-from_zero a zero refl)
some_gcd (suc fuel) a (suc b) l =
    let rest = some_gcd fuel (suc b) (a % suc b) (omega arith) in
    (rest.0, IsGcd-from_mod a (suc b) rest.0 rest.1)

-- a common factor of two numbers times c is one of their greatest common divisor times c
scaled : (c a b g d : ℕ) → 0 < c → IsGcd a b g → d ∣ c * a → d ∣ c * b → d ∣ c * g
scaled c a b g d some h p q =
    let k = some_gcd (suc (c * b)) (c * a) (c * b) (omega arith) in
    let shared : c ∣ k.0 = k.1.2 c (dvd-mul_right c a) (dvd-mul_right c b) in
    let part : c * (k.0 / c) ≡ k.0 = mul-div_cancel' c shared in
    let first : c * (k.0 / c) ∣ c * a = subst (λ n. n ∣ c * a) (sym part) k.1.0 in
    let second : c * (k.0 / c) ∣ c * b = subst (λ n. n ∣ c * b) (sym part) k.1.1 in
    let within : k.0 / c ∣ g = h.2 (k.0 / c) (dvd_of_mul-dvd-mul_left (k.0 / c) some first) (dvd_of_mul-dvd-mul_left (k.0 / c) some second) in
    dvd_trans d (k.1.2 d p q) (subst (λ n. n ∣ c * g) part (mul-dvd-mul_left (k.0 / c) c within))

divides_each : (a b g q k : ℕ) → 0 < g → IsGcd a b g → a ≡ q * g → a ∣ k → b ∣ k → q * b ∣ k
divides_each a b g q zero some h e p r = dvd-zero (q * b)
divides_each a b g q (suc k) some h e p r =
    let first : a * b ∣ suc k * a = subst (λ n. a * b ∣ n) (omega arith) (mul-dvd-mul_left b a r) in
    let second : a * b ∣ suc k * b = mul-dvd-mul_right a p b in
    let both : a * b ∣ suc k * g = scaled (suc k) a b g (a * b) (omega arith) h first second in
    let split : a * b ≡ q * b * g = omega (arith, ap (λ n. n * b) e) in
    dvd_of_mul-dvd-mul_right (q * b) some (subst (λ n. n ∣ suc k * g) split both)

-- the one number over the greatest common divisor, times the other
pub lcm_from_gcd : (a b g q : ℕ) → 0 < a → IsGcd a b g → a ≡ q * g → IsLcm a b (q * b)
lcm_from_gcd a b g q some h e =
    let positive : 0 < g = pos_of_dvd_of_pos h.0 some in
    let part : g * (b / g) ≡ b = mul-div_cancel' g h.1 in
    let whole : a * (b / g) ≡ q * b = ap (λ n. n * (b / g)) e ∙ omega (arith, ap (λ n. q * n) part) in (
      subst (λ n. a ∣ n) whole (dvd-mul_right a (b / g)),
      dvd-mul_left b q,
      λ k p r. divides_each a b g q k positive h e p r,
    )

pub some_lcm : (a b : ℕ) → 0 < a → (l : ℕ) × IsLcm a b l
some_lcm a b some =
    let g = some_gcd (suc b) a b (omega arith) in
    let part : g.0 * (a / g.0) ≡ a = mul-div_cancel' g.0 g.1.0 in
    (a / g.0 * b, lcm_from_gcd a b g.0 (a / g.0) some g.1 (omega arith))

pub same_lcm : (a b l k : ℕ) → IsLcm a b l → IsLcm a b k → l ≡ k
same_lcm a b l k h m = dvd_antisymm (h.2 k m.0 m.1) (m.2 l h.0 h.1)

-- ---- what clears fractions

den_test : (f : Fraction) (k : ℕ) → eqb (k % unsigned_abs f.den) 0 ≡ true → unsigned_abs f.den ∣ k
den_test f k h = dvd_of_mod-eq-zero (unsigned_abs f.den) (eqb-true (k % unsigned_abs f.den) 0 h)

den_passes : (f : Fraction) (k : ℕ) → unsigned_abs f.den ∣ k → eqb (k % unsigned_abs f.den) 0 ≡ true
den_passes f k h = eq-eqb (k % unsigned_abs f.den) 0 (mod-eq-zero_of_dvd (unsigned_abs f.den) h)

-- it clears each of them
pub cleared_each : (fs : List Fraction) (k : ℕ) → IsTrue (clears fs k) → AllByRecursion (λ f. unsigned_abs f.den ∣ k) fs
cleared_each [] k h = tt
cleared_each (f ∷ fs) k h =
    let parts = and_parts (eqb (k % unsigned_abs f.den) 0) (clears fs k) h in
    (den_test f k parts.0, cleared_each fs k parts.1)

pub clears_from : (fs : List Fraction) (k : ℕ) → AllByRecursion (λ f. unsigned_abs f.den ∣ k) fs → IsTrue (clears fs k)
clears_from [] k h = refl
clears_from (f ∷ fs) k h = and_from (eqb (k % unsigned_abs f.den) 0) (clears fs k) (den_passes f k h.0) (clears_from fs k h.1)

clears-times : (fs : List Fraction) (c k : ℕ) → AllByRecursion (λ f. unsigned_abs f.den ∣ k) fs → AllByRecursion (λ f. unsigned_abs f.den ∣ c * k) fs
clears-times [] c k h = tt
clears-times (f ∷ fs) c k h = (dvd-mul_left_of_dvd (unsigned_abs f.den) h.0 c, clears-times fs c k h.1)

-- m is positive, clears the fractions and divides each number that does
pub record IsCommon (fs : List Fraction) (m : ℕ) : Type 0 where
  pub positive : 0 < m
  pub cleared : IsTrue (clears fs m)
  pub divides : (k : ℕ) → IsTrue (clears fs k) → m ∣ k

pub common-nil : IsCommon [] 1
common-nil = record { positive = omega arith; cleared = refl; divides = λ k h. one-dvd k }

mul_positive : (a b : ℕ) → 0 < a → 0 < b → 0 < a * b
mul_positive zero b p q = absurd (omega arith)
mul_positive (suc a) zero p q = absurd (omega arith)
mul_positive (suc a) (suc b) p q = omega arith

lcm_positive : (a b l : ℕ) → 0 < a → 0 < b → IsLcm a b l → 0 < l
lcm_positive a b l p q h =
    let both : l ∣ a * b = h.2 (a * b) (dvd-mul_right a b) (dvd-mul_left b a) in
    pos_of_dvd_of_pos both (mul_positive a b p q)

-- what divides k divides each multiple of it
widened : (fs : List Fraction) (k l : ℕ) → k ∣ l → AllByRecursion (λ f. unsigned_abs f.den ∣ k) fs → AllByRecursion (λ f. unsigned_abs f.den ∣ l) fs
widened [] k l d h = tt
widened (f ∷ fs) k l d h = (dvd_trans (unsigned_abs f.den) h.0 d, widened fs k l d h.1)

clears-multiple : (fs : List Fraction) (k l : ℕ) → k ∣ l → IsTrue (clears fs k) → IsTrue (clears fs l)
clears-multiple fs k l d h = clears_from fs l (widened fs k l d (cleared_each fs k h))

-- one more fraction, at the front and at the back
pub common-cons : (f : Fraction) (fs : List Fraction) (m l : ℕ) → 0 < unsigned_abs f.den → IsCommon fs m → IsLcm m (unsigned_abs f.den) l → IsCommon (f ∷ fs) l
common-cons f fs m l some h k = record {
  positive = lcm_positive m (unsigned_abs f.den) l h.positive some k;
  cleared = and_from (eqb (l % unsigned_abs f.den) 0) (clears fs l) (den_passes f l k.1) (clears-multiple fs m l k.0 h.cleared);
  divides = λ n t.
      let parts = and_parts (eqb (n % unsigned_abs f.den) 0) (clears fs n) t in
      k.2 n (h.divides n parts.1) (den_test f n parts.0);
}

one_test : (f : Fraction) (k : ℕ) → clears (f ∷ []) k ≡ eqb (k % unsigned_abs f.den) 0
one_test f k = and_true (eqb (k % unsigned_abs f.den) 0)
  where
    and_true : (b : Bool) → (b && true) ≡ b
    and_true true = refl
    and_true false = refl

pub common-push : (f : Fraction) (fs : List Fraction) (m l : ℕ) → 0 < unsigned_abs f.den → IsCommon fs m → IsLcm m (unsigned_abs f.den) l → IsCommon (fs ++ f ∷ []) l
common-push f fs m l some h k =
    let split = λ (n : ℕ). list_all-append (λ (g : Fraction). eqb (n % unsigned_abs g.den) 0) fs (f ∷ []) in record {
      positive = lcm_positive m (unsigned_abs f.den) l h.positive some k;
      cleared = split l ∙ and_from (clears fs l) (clears (f ∷ []) l) (clears-multiple fs m l k.0 h.cleared) (one_test f l ∙ den_passes f l k.1);
      divides = λ n t.
          let parts = and_parts (clears fs n) (clears (f ∷ []) n) (sym (split n) ∙ t) in
          k.2 n (h.divides n parts.0) (den_test f n (sym (one_test f n) ∙ parts.1));
    }

-- ---- the first number that passes

first_is : (test : ℕ → Bool) (count n m : ℕ) → n ≤ m → m ≤ n + count → test m ≡ true → ((k : ℕ) → n ≤ k → k < m → test k ≡ false) → first_from test count n ≡ m
first_is test zero n m p q pass fails = omega arith
first_is test (suc count) n m p q pass fails =
    elim (cases_eq n m) [
      | inl same ↦ cond-true (test n) n (first_from test count (n + 1)) (ap test same ∙ pass) ∙ same
      | inr other ↦
          cond-false (test n) n (first_from test count (n + 1)) (fails n (omega arith) (omega arith))
          ∙ first_is test count (n + 1) m (omega arith) (omega arith) pass (λ k l. fails k (omega arith))
    ]

abbrev EachPositive : List Fraction → Type 0
EachPositive fs = AllByRecursion (λ f. pos 1 ≤ℤ f.den) fs

product_clears : (fs : List Fraction) → EachPositive fs → (0 < product_of_dens fs) × IsTrue (clears fs (product_of_dens fs))
product_clears [] h = (omega arith, refl)
product_clears (f ∷ fs) h =
    let rest = product_clears fs h.1 in
    let n = product_of_dens fs in
    let some : 0 < unsigned_abs f.den = omega (arith, ints, h.0) in (
      mul_positive (unsigned_abs f.den) n some rest.0,
      and_from (eqb (unsigned_abs f.den * n % unsigned_abs f.den) 0) (clears fs (unsigned_abs f.den * n)) (den_passes f (unsigned_abs f.den * n) (dvd-mul_right (unsigned_abs f.den) n)) (clears-multiple fs n (unsigned_abs f.den * n) (dvd-mul_left n (unsigned_abs f.den)) rest.1),
    )

-- what divides each number that clears the fractions is their multiplier
pub multiplier_is : (fs : List Fraction) (m : ℕ) → EachPositive fs → IsCommon fs m → multiplier fs ≡ m
multiplier_is fs m h c =
    let product = product_clears fs h in
    let within : m ≤ product_of_dens fs = le_of_dvd product.0 (c.divides (product_of_dens fs) product.1) in
    first_is (clears fs) (product_of_dens fs) 1 m c.positive (omega arith) c.cleared
    (λ k p l. elim (cases_Bool (clears fs k)) [
      | inl passed ↦ absurd (omega (arith, le_of_dvd (omega arith) (c.divides k passed)))
      | inr failed ↦ failed
    ])

some_common : (fs : List Fraction) → EachPositive fs → (m : ℕ) × IsCommon fs m
some_common [] h = (1, common-nil)
some_common (f ∷ fs) h =
    let rest = some_common fs h.1 in
    let l = some_lcm rest.0 (unsigned_abs f.den) rest.1.positive in
    (l.0, common-cons f fs rest.0 l.0 (omega (arith, ints, h.0)) rest.1 l.1)

pub multiplier_common : (fs : List Fraction) → EachPositive fs → IsCommon fs (multiplier fs)
multiplier_common fs h =
    let m = some_common fs h in
    subst (IsCommon fs) (sym (multiplier_is fs m.0 h m.1)) m.1

pub least_law : (fs : List Fraction) → ArePositive fs → IsLeastMultiplier fs (multiplier fs)
least_law fs h =
    let c = multiplier_common fs (recursion_from_All (λ f. pos 1 ≤ℤ f.den) fs h) in record {
      positive = c.positive;
      cleared = c.cleared;
      least = λ k some t. le_of_dvd some (c.divides k t);
    }

-- ---- the multipliers of lists that grow

each_positive : (fs : List Fraction) → ArePositive fs → EachPositive fs
each_positive fs h = recursion_from_All (λ f. pos 1 ≤ℤ f.den) fs h

pub common_of : (fs : List Fraction) → ArePositive fs → IsCommon fs (multiplier fs)
common_of fs h = multiplier_common fs (each_positive fs h)

-- each of them divides the multiplier
pub each_divides : (fs : List Fraction) → ArePositive fs → All (λ f. unsigned_abs f.den ∣ multiplier fs) fs
each_divides fs h = All-from_recursion (λ f. unsigned_abs f.den ∣ multiplier fs) fs (cleared_each fs (multiplier fs) (common_of fs h).cleared)

pub multiplier_push : (fs : List Fraction) (f : Fraction) (known l : ℕ) → ArePositive fs → pos 1 ≤ℤ f.den → known ≡ multiplier fs → IsLcm known (unsigned_abs f.den) l → multiplier (fs ++ f ∷ []) ≡ l
multiplier_push fs f known l h some e k =
    let known_common : IsCommon fs known = subst (IsCommon fs) (sym e) (common_of fs h) in
    let positive : ArePositive (fs ++ f ∷ []) = All-append (λ (g : Fraction). pos 1 ≤ℤ g.den) fs (f ∷ []) h (All-cons (λ (g : Fraction). pos 1 ≤ℤ g.den) f [] some (All-nil (λ (g : Fraction). pos 1 ≤ℤ g.den))) in
    multiplier_is (fs ++ f ∷ []) l (each_positive (fs ++ f ∷ []) positive) (common-push f fs known l (omega (arith, ints, some)) known_common k)

-- more fractions have no lesser multiplier
pub multiplier_grows : (xs ys : List Fraction) → ArePositive (xs ++ ys) → ArePositive xs → multiplier xs ≤ multiplier (xs ++ ys)
multiplier_grows xs ys all h =
    let whole = common_of (xs ++ ys) all in
    let parts = and_parts (clears xs (multiplier (xs ++ ys))) (clears ys (multiplier (xs ++ ys))) (sym (list_all-append (λ (g : Fraction). eqb (multiplier (xs ++ ys) % unsigned_abs g.den) 0) xs ys) ∙ whole.cleared) in
    le_of_dvd whole.positive ((common_of xs h).divides (multiplier (xs ++ ys)) parts.0)

pub push_result : (fs : List Fraction) (f : Fraction) (known d : ℕ) (found : Option ℕ) → d ≡ unsigned_abs f.den → pos 1 ≤ℤ f.den → 0 < known → MatchOption found ((l : ℕ) → IsLcm known d l → 2 ^ 52 < l) (λ l. IsLcm known d l × (l ≤ 2 ^ 52)) → ArePositive fs → known ≡ multiplier fs → IsNarrowMultiplier (fs ++ f ∷ []) found
push_result fs f known d None e some k h positive same =
    let l = some_lcm known d k in
    let is : multiplier (fs ++ f ∷ []) ≡ l.0 = multiplier_push fs f known l.0 positive some same (subst (λ n. IsLcm known n l.0) e l.1) in
    subst (λ n. 2 ^ 52 < n) (sym is) (h l.0 l.1)
push_result fs f known d (Some l) e some k h positive same =
    (sym (multiplier_push fs f known l positive some same (subst (λ n. IsLcm known n l) e h.0)), h.1)
