-- Fractions p / q in lowest terms over one denominator. All numbers are sizes.
use Rattle.std.proofs.Common.{ℕ, zero, suc, ◌+◌, ◌*◌, ◌/◌, ◌^◌, ◌<◌, ◌≤◌, ◌≡◌, ◌∙◌, sym, ap, subst, arith, ℤ, pos, List, [], ◌∷◌}
use Prim.Native.Nat.{◌∣◌}
use Rattle.std.specs.Int.{IsGcd}
use Rattle.std.proofs.Math.Nat.{div-mul_cancel, mul-dvd-mul_right, dvd-mul_left, dvd-mul_right, dvd_of_mul-dvd-mul_right, le_of_mul-le-mul_right, mul-le-mul_left, mul-le-mul_right, one-dvd, eq-one_of_dvd-one, eq-zero_of_zero-dvd, pos_of_dvd_of_pos, dvd-mul_right_of_dvd}
use Rattle.std.proofs.lemmas.Nat.Gcd.{dvd_refl, dvd_trans, dvd-zero, le_of_dvd, IsGcd-swap}
use Rattle.dict.specs.Equations.{DividesEach}
use Rattle.dict.proofs.Determined.{Common, common_of, EachTimes}
use Rattle.dict.proofs.Pivots.{by_eq, by_lt}
use Rattle.dict.proofs.Reduces.{only_one}
use Rattle.basic_solutions.specs.Commons.{IsLcm, IsLeastCommon, IsGreatestCommon, IsTooLarge}

-- ---- two numbers

pub cancel_right : (t a b : ℕ) → 0 < t → a * t ≡ b * t → a ≡ b
cancel_right t a b ht e =
    let f : a * t ≤ b * t = omega (arith, e) in
    let g : b * t ≤ a * t = omega (arith, e) in
    let up : a ≤ b = le_of_mul-le-mul_right f ht in
    let down : b ≤ a = le_of_mul-le-mul_right g ht in
    omega (arith, up, down)

-- what divides k times each of two numbers divides k times their greatest common divisor
pub times_gcd : (a b g : ℕ) → IsGcd a b g → (d k : ℕ) → d ∣ k * a → d ∣ k * b → d ∣ k * g
times_gcd a b g is d k ha hb =
    let r = common_of a ((0, pos b) ∷ []) in
    let within : r.g ∣ g = is.2 r.g r.first r.each.0 in
    let up : r.g * k ∣ g * k = mul-dvd-mul_right r.g within k in
    let e : r.g * k ≡ k * r.g = omega arith in
    let f : g * k ≡ k * g = omega arith in
    dvd_trans d (r.times d k ha (hb, tt)) (subst (λ (n : ℕ). n ∣ k * g) e (subst (λ (n : ℕ). r.g * k ∣ n) f up))

pub coprime_divides : (t m k : ℕ) → IsGcd t m 1 → t ∣ k * m → t ∣ k
coprime_divides t m k one h =
    let e : k * 1 ≡ k = omega arith in
    subst (λ (n : ℕ). t ∣ n) e (times_gcd t m 1 one t k (dvd-mul_left t k) h)

-- y / d = p / q in lowest terms: q divides d
pub den_divides : (y p q d : ℕ) → IsGcd p q 1 → y * q ≡ p * d → q ∣ d
den_divides y p q d lowest e =
    let f : y * q ≡ d * p = omega (arith, e) in
    coprime_divides q p d (IsGcd-swap p q 1 lowest) (subst (λ (n : ℕ). q ∣ n) f (dvd-mul_left q y))

pub lcm_is : (d q g : ℕ) → 0 < d → 0 < q → IsGcd d q g → IsLcm d q (d * (q / g))
lcm_is d q g hd hq is =
    let r = q / g in
    let eq : r * g ≡ q = div-mul_cancel g is.1 in
    let s = d / g in
    let ed : s * g ≡ d = div-mul_cancel g is.0 in
    let hg : 0 < g = pos_of_dvd_of_pos is.1 hq in
    let back : s * (r * g) ≡ d * r = omega (arith, ap (λ n. n * r) ed) in (
      dvd-mul_right d r,
      subst (λ (n : ℕ). q ∣ n) (ap (λ n. s * n) (sym eq) ∙ back) (dvd-mul_left q s),
      λ n hn hm.
          let first : d * q ∣ n * q = mul-dvd-mul_right d hn q in
          let second : d * q ∣ n * d =
          let e : q * d ≡ d * q = omega arith in
          subst (λ (k : ℕ). k ∣ n * d) e (mul-dvd-mul_right q hm d) in
          let both : d * q ∣ n * g = times_gcd d q g is (d * q) n second first in
          let f : d * q ≡ (d * r) * g = omega (arith, ap (λ k. d * k) eq) in
          dvd_of_mul-dvd-mul_right (d * r) hg (subst (λ (k : ℕ). k ∣ n * g) f both),
    )

-- ---- many numbers

pub least_none : (q : ℕ → ℕ) → IsLeastCommon 0 q 1
least_none q = record { positive = omega arith; multiple = λ c lt. absurd (omega (arith, lt)); least = λ m h. one-dvd m }

pub least_more : (k : ℕ) (q : ℕ → ℕ) (d m : ℕ) → IsLeastCommon k q d → IsLcm d (q k) m → 0 < m → IsLeastCommon (k + 1) q m
least_more k q d m before is some = record {
  positive = some;
  multiple = λ c lt. by_eq c k (λ here. subst (λ (n : ℕ). q n ∣ m) (sym here) is.1) (λ other. dvd_trans (q c) (before.multiple c (omega (arith, lt, other))) is.0);
  least = λ n h. is.2 n (before.least n (λ c lt. h c (omega (arith, lt)))) (h k (omega arith));
}

pub greatest_none : (p : ℕ → ℕ) → IsGreatestCommon 0 p 0
greatest_none p = record { divides = λ c lt. absurd (omega (arith, lt)); greatest = λ d h. dvd-zero d }

pub greatest_more : (k : ℕ) (p : ℕ → ℕ) (g h : ℕ) → IsGreatestCommon k p g → IsGcd g (p k) h → IsGreatestCommon (k + 1) p h
greatest_more k p g h before is = record {
  divides = λ c lt. by_eq c k (λ here. subst (λ (n : ℕ). h ∣ p n) (sym here) is.1) (λ other. dvd_trans h is.0 (before.divides c (omega (arith, lt, other))));
  greatest = λ d all. is.2 d (before.greatest d (λ c lt. all c (omega (arith, lt)))) (all k (omega arith));
}

listed : ℕ → (ℕ → ℕ) → List (ℕ × ℤ)
listed zero p = []
listed (suc n) p = (n, pos (p n)) ∷ listed n p

each_listed : (n g : ℕ) (p : ℕ → ℕ) → DividesEach g (listed n p) → (c : ℕ) → c < n → g ∣ p c
unfolding listed
each_listed zero g p all c lt = absurd (omega (arith, lt))
each_listed (suc n) g p all c lt = by_eq c n (λ here. subst (λ (k : ℕ). g ∣ p k) (sym here) all.0) (λ other. each_listed n g p all.1 c (omega (arith, lt, other)))

times_listed : (n d k : ℕ) (p : ℕ → ℕ) → ((c : ℕ) → c < n → d ∣ k * p c) → EachTimes d k (listed n p)
unfolding listed
times_listed zero d k p h = tt
times_listed (suc n) d k p h = (h n (omega arith), times_listed n d k p (λ c lt. h c (omega (arith, lt))))

-- there is one, and what divides k times each number divides k times it
pub record Greatest (n : ℕ) (p : ℕ → ℕ) : Type 0 where
  pub g : ℕ
  pub is : IsGreatestCommon n p g
  pub times : (d k : ℕ) → ((c : ℕ) → c < n → d ∣ k * p c) → d ∣ k * g

pub greatest_of : (n : ℕ) (p : ℕ → ℕ) → Greatest n p
greatest_of n p =
    let r = common_of 0 (listed n p) in
    let times : (d k : ℕ) → ((c : ℕ) → c < n → d ∣ k * p c) → d ∣ k * r.g = λ d k h.
    let z : 0 ≡ k * 0 = omega arith in
    r.times d k (subst (λ (m : ℕ). d ∣ m) z (dvd-zero d)) (times_listed n d k p h) in
    record {
      g = r.g;
      is = record {
        divides = each_listed n r.g p r.each;
        greatest = λ d h.
            let e : 1 * r.g ≡ r.g = omega arith in
            subst (λ (m : ℕ). d ∣ m) e (times d 1 (λ c lt. let f : p c ≡ 1 * p c = omega arith in subst (λ (m : ℕ). d ∣ m) f (h c lt)));
      };
      times = times;
    }

-- ---- fractions

pub record AreFractions (n : ℕ) (p q : ℕ → ℕ) : Type 0 where
  pub positive : (c : ℕ) → c < n → 0 < q c
  pub lowest : (c : ℕ) → c < n → IsGcd (p c) (q c) 1

-- each common denominator is a multiple of the least
pub least_divides : (n l d : ℕ) (p q y : ℕ → ℕ) → AreFractions n p q → IsLeastCommon n q l → ((c : ℕ) → c < n → y c * q c ≡ p c * d) → l ∣ d
least_divides n l d p q y are least h = least.least d (λ c lt. den_divides (y c) (p c) (q c) d (are.lowest c lt) (h c lt))

cancelled : (x t q p l : ℕ) → 0 < t → (x * t) * q ≡ p * (l * t) → x * q ≡ p * l
cancelled x t q p l ht e =
    let f : (x * q) * t ≡ (p * l) * t = omega (arith, e) in
    cancel_right t (x * q) (p * l) ht f

-- over the least common denominator there is no common divisor
pub point_lowest : (n l t : ℕ) (p q x : ℕ → ℕ) → AreFractions n p q → IsLeastCommon n q l → ((c : ℕ) → c < n → x c * q c ≡ p c * l) → t ∣ l → ((c : ℕ) → c < n → t ∣ x c) → t ≡ 1
point_lowest n l t p q x are least h tl tx =
    let ht : 0 < t = pos_of_dvd_of_pos tl least.positive in
    let k = l / t in
    let el : k * t ≡ l = div-mul_cancel t tl in
    let up : l ∣ k = least.least k
    (λ c lt.
    let ex : x c / t * t ≡ x c = div-mul_cancel t (tx c lt) in
    let e : (x c / t * t) * q c ≡ p c * (k * t) = ap (λ n. n * q c) ex ∙ h c lt ∙ ap (λ n. p c * n) (sym el) in
    den_divides (x c / t) (p c) (q c) k (are.lowest c lt) (cancelled (x c / t) t (q c) (p c) k ht e)) in
    let hk : 0 < k = by_lt 0 k (λ lt. lt) (λ ge. absurd (omega (arith, ge, ap (λ n. n * t) (zero_of k ge), el, least.positive))) in
    let f : t * k ≡ l = omega (arith, el) in
    only_one t k hk (subst (λ (m : ℕ). m ∣ k) (sym f) up)
  where
    zero_of : (k : ℕ) → k ≤ 0 → k ≡ 0
    zero_of k h = omega (arith, h)

-- a number that is too large over the least common denominator is so over each other
pub wide_number : (y p q l d : ℕ) → 0 < q → 0 < d → y * q ≡ p * d → l ∣ d → 2 ^ 63 * (1 * q) ≤ p * l → 2 ^ 63 ≤ y
wide_number y p q l d hq hd e divides large =
    let le : l ≤ d = le_of_dvd hd divides in
    let m : p * l ≤ p * d = mul-le-mul_left p le in
    let f : 2 ^ 63 * q ≤ y * q = omega (arith, large, m, e) in
    le_of_mul-le-mul_right f hq

-- ---- directions

-- where the numbers are those over the least common denominator, their divisors are those of the numerators
pub common_divides : (n l g t : ℕ) (p q x : ℕ → ℕ) → AreFractions n p q → IsLeastCommon n q l → IsGreatestCommon n p g → ((c : ℕ) → c < n → x c * q c ≡ p c * l) → ((c : ℕ) → c < n → t ∣ x c) → t ∣ g
common_divides n l g t p q x are least greatest h tx =
    let r = common_of t ((0, pos l) ∷ []) in
    let one : r.g ≡ 1 = point_lowest n l r.g p q x are least h r.each.0 (λ c lt. dvd_trans r.g r.first (tx c lt)) in
    let coprime : IsGcd t l 1 = (one-dvd t, one-dvd l, λ d ht hl. subst (λ (m : ℕ). d ∣ m) one (greatest_by t l r d ht hl)) in
    greatest.greatest t (λ c lt. coprime_divides t l (p c) coprime (subst (λ (m : ℕ). t ∣ m) (h c lt) (dvd-mul_right_of_dvd t (tx c lt) (q c))))
  where
    greatest_by : (t l : ℕ) (r : Common t ((0, pos l) ∷ [])) (d : ℕ) → d ∣ t → d ∣ l → d ∣ r.g
    greatest_by t l r d ht hl =
        let a : t ≡ 1 * t = omega arith in
        let b : l ≡ 1 * l = omega arith in
        let c : 1 * r.g ≡ r.g = omega arith in
        subst (λ (m : ℕ). d ∣ m) c (r.times d 1 (subst (λ (m : ℕ). d ∣ m) a ht) (subst (λ (m : ℕ). d ∣ m) b hl, tt))

-- the numbers over the least common denominator, divided by the greatest common divisor of the numerators, have no common divisor
pub ray_lowest : (n l g t : ℕ) (p q x : ℕ → ℕ) → AreFractions n p q → IsLeastCommon n q l → IsGreatestCommon n p g → 0 < g → ((c : ℕ) → c < n → (x c * g) * q c ≡ p c * l) → ((c : ℕ) → c < n → t ∣ x c) → t ≡ 1
ray_lowest n l g t p q x are least greatest hg h tx =
    only_one t g hg (common_divides n l g (t * g) p q (λ c. x c * g) are least greatest h (λ c lt. mul-dvd-mul_right t (tx c lt) g))

-- each direction of whole numbers is a multiple of that one
pub ray_divides : (n l g a b : ℕ) (p q y : ℕ → ℕ) → AreFractions n p q → IsLeastCommon n q l → IsGreatestCommon n p g → ((c : ℕ) → c < n → (y c * b) * q c ≡ p c * a) → b * l ∣ a * g
ray_divides n l g a b p q y are least greatest h =
    let x : ℕ → ℕ = λ c. p c * (l / q c) in
    let made : (c : ℕ) → c < n → x c * q c ≡ p c * l = λ c lt.
    let e : l / q c * q c ≡ l = div-mul_cancel (q c) (least.multiple c lt) in
    omega (arith, ap (λ m. p c * m) e) in
    let r = greatest_of n x in
    let within : r.g ∣ g = common_divides n l g r.g p q x are least greatest made r.is.divides in
    let all : b * l ∣ a * r.g = r.times (b * l) a
    (λ c lt.
    let e : (y c * (b * l)) * q c ≡ (a * x c) * q c = omega (arith, ap (λ m. m * l) (h c lt), ap (λ m. a * m) (made c lt)) in
    let f : y c * (b * l) ≡ a * x c = cancel_right (q c) (y c * (b * l)) (a * x c) (are.positive c lt) e in
    subst (λ (m : ℕ). b * l ∣ m) f (dvd-mul_left (b * l) (y c))) in
    let up : r.g * a ∣ g * a = mul-dvd-mul_right r.g within a in
    let e : r.g * a ≡ a * r.g = omega arith in
    let f : g * a ≡ a * g = omega arith in
    dvd_trans (b * l) all (subst (λ (m : ℕ). m ∣ a * g) e (subst (λ (m : ℕ). r.g * a ∣ m) f up))

-- so a number of it that is too large is so in each other
pub wide_along : (y p q l g a b : ℕ) → 0 < q → 0 < g → 0 < a → 0 < b → (y * b) * q ≡ p * a → b * l ∣ a * g → 2 ^ 63 * (g * q) ≤ p * l → 2 ^ 63 ≤ y
wide_along y p q l g a b hq hg ha hb e divides large =
    let some : 0 < a * g = mul_positive a g ha hg in
    let le : b * l ≤ a * g = le_of_dvd some divides in
    let m : p * (b * l) ≤ p * (a * g) = mul-le-mul_left p le in
    let f : p * (a * g) ≡ ((y * b) * q) * g = omega (arith, ap (λ n. n * g) e) in
    let k : b * (2 ^ 63 * (g * q)) ≤ b * (p * l) = mul-le-mul_left b large in
    let j : 2 ^ 63 * ((b * q) * g) ≤ y * ((b * q) * g) = omega (arith, m, f, k) in
    le_of_mul-le-mul_right j (mul_positive (b * q) g (mul_positive b q hb hq) hg)
  where
    mul_positive : (a b : ℕ) → 0 < a → 0 < b → 0 < a * b
    mul_positive a b ha hb = omega (arith, Rattle.std.proofs.Math.Nat.mul-le-mul (one_le a ha) (one_le b hb))
      where
        one_le : (a : ℕ) → 0 < a → 1 ≤ a
        one_le a h = omega (arith, h)

pub too_large_divides : (n d : ℕ) (p q y : ℕ → ℕ) → AreFractions n p q → 0 < d → IsTooLarge n q → ((c : ℕ) → c < n → y c * q c ≡ p c * d) → 2 ^ 63 ≤ d
too_large_divides n d p q y are hd large h =
    let some : (c : ℕ) → c < large.k + 1 → c < n = λ c lt. omega (arith, lt, large.within) in
    let divides : large.l ∣ d = large.least.least d (λ c lt. den_divides (y c) (p c) (q c) d (are.lowest c (some c lt)) (h c (some c lt))) in
    let le : large.l ≤ d = le_of_dvd hd divides in
    omega (arith, le, large.large)

zero_lowest : (p q : ℕ) → IsGcd p q 1 → p ≡ 0 → q ≡ 1
zero_lowest p q is e = eq-one_of_dvd-one (is.2 q (subst (λ (n : ℕ). q ∣ n) (sym e) (dvd-zero q)) (dvd_refl q))

-- where the least common multiple is too large, each direction of whole numbers has a number that is so
pub too_large_along : (n a b : ℕ) (p q y : ℕ → ℕ) → AreFractions n p q → ((c : ℕ) → c < n → q c < 2 ^ 63) → 0 < a → 0 < b → (t : IsTooLarge n q) → ((c : ℕ) → c < n → (y c * b) * q c ≡ p c * a) → 2 ^ 63 ≤ y t.k
too_large_along n a b p q y are narrow ha hb t h =
    let k = t.k in
    let some : (c : ℕ) → c < k + 1 → c < n = λ c lt. omega (arith, lt, t.within) in
    let part : AreFractions (k + 1) p q = record { positive = λ c lt. are.positive c (some c lt); lowest = λ c lt. are.lowest c (some c lt) } in
    let above : 0 < p k =
    by_lt 0 (p k) (λ lt. lt)
    (λ ge.
    let one : q k ≡ 1 = zero_lowest (p k) (q k) (are.lowest k t.within) (omega (arith, ge)) in
    let divides : t.l ∣ t.before = t.least.least t.before (λ c lt. by_eq c k (λ here. subst (λ (m : ℕ). q m ∣ t.before) (sym here) (subst (λ (m : ℕ). m ∣ t.before) (sym one) (one-dvd t.before))) (λ other. t.least_before.multiple c (omega (arith, lt, other)))) in
    let le : t.l ≤ t.before = le_of_dvd t.least_before.positive divides in
    absurd (omega (arith, le, t.large, t.small))) in
    let r = greatest_of (k + 1) p in
    let here : r.g ∣ p k = r.is.divides k (omega arith) in
    let hg : 0 < r.g = pos_of_dvd_of_pos here above in
    let le : r.g ≤ p k = le_of_dvd above here in
    let small : 2 ^ 63 * q k ≤ t.l = omega (arith, narrow k t.within, t.large) in
    let m : r.g * (2 ^ 63 * q k) ≤ p k * t.l = Rattle.std.proofs.Math.Nat.mul-le-mul le small in
    let large : 2 ^ 63 * (r.g * q k) ≤ p k * t.l = omega (arith, m) in
    wide_along (y k) (p k) (q k) t.l r.g a b (are.positive k t.within) hg ha hb (h k t.within) (ray_divides (k + 1) t.l r.g a b p q y part t.least r.is (λ c lt. h c (some c lt))) large
