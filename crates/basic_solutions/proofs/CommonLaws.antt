-- Lists of fractions over one denominator, and along one direction.
use Rattle.std.proofs.Common.{ℕ, zero, suc, ◌+◌, ◌*◌, ◌/◌, ◌^◌, ◌<◌, ◌≤◌, ◌≡◌, ◌∙◌, sym, ap, subst, arith, ℤ, pos, ◌*ℤ◌, List, [], ◌∷◌, ◌++◌, length, inl, inr, Option, Some, None, IfSome, IfNone}
use Prim.Native.Nat.{◌∣◌}
use Rattle.std.specs.Prelude.{unsigned_abs}
use Rattle.std.specs.List.{AllByRecursion}
use Rattle.std.proofs.lemmas.Int.{ints, unsigned_abs-mul}
use Rattle.std.proofs.lemmas.List.{get_or_append_left, get_or_push, length-append}
use Rattle.std.proofs.lemmas.Nat.Gcd.{le_of_dvd}
use Rattle.std.proofs.Math.Nat.{div-mul_cancel, mul-le-mul_left, mul-le-mul_right, eq-zero_of_zero-dvd}
use Rattle.lp_base.specs.Numbers.{IsNarrow}
use Rattle.lp_nums.specs.Fractions.{Fraction}
use Rattle.dict.proofs.Pivots.{by_eq, by_lt}
use Rattle.basic_solutions.specs.Commons.{IsGreatestCommon, IsLeastCommon, IsTooLarge, IsWideAlong, IsWideOver}
use Rattle.basic_solutions.specs.Readings.{AreAlong, AreNarrowFractions, AreNumbersUpto, AreOver, den_in, size_in, value_in}
use Rattle.basic_solutions.specs.Solutions.{number_in}
use Rattle.basic_solutions.proofs.Coprimes.{AreFractions, least_divides, point_lowest, ray_divides, ray_lowest, too_large_along, too_large_divides, wide_along}

-- ---- clauses on results

pub some_map : {T : Type 0} {P Q : T → Type 0} (o : Option T) → ((t : T) → P t → Q t) → IfSome o P → IfSome o Q
some_map (Some t) f h = f t h
some_map None f h = h

pub none_map : {T : Type 0} {P Q : Type 0} (o : Option T) → (P → Q) → IfNone o P → IfNone o Q
none_map (Some t) f h = h
none_map None f h = f h

-- ---- the lists

pub fractions_are : (values : List Fraction) → AreNarrowFractions values → AreFractions (length values) (size_in values) (den_in values)
fractions_are values h = record {
  positive = λ c lt. omega (arith, ints, (h c lt).0.positive);
  lowest = λ c lt. (h c lt).0.lowest;
}

sizes_of : (x num den : ℤ) (g d : ℕ) → (x *ℤ pos g) *ℤ den ≡ num *ℤ pos d → (unsigned_abs x * g) * unsigned_abs den ≡ unsigned_abs num * d
sizes_of x num den g d e =
    ap (λ n. n * unsigned_abs den) (sym (unsigned_abs-mul x (pos g))) ∙ sym (unsigned_abs-mul (x *ℤ pos g) den) ∙ ap unsigned_abs e ∙ unsigned_abs-mul num (pos d)

at_place : (P : ℤ → Type 0) (xs : List ℤ) (c : ℕ) → c < length xs → AllByRecursion P xs → P (number_in xs c)
at_place P [] c lt all = absurd (omega arith)
at_place P (x ∷ xs) zero lt all = all.0
at_place P (x ∷ xs) (suc c) lt all = at_place P xs c (omega (arith, lt)) all.1

-- one number more
pub numbers_more : (values : List Fraction) (g d i : ℕ) (x : ℤ) (f : Fraction) (xs xs' : List ℤ) → f ≡ value_in values i → xs' ≡ xs ++ x ∷ [] → IsNarrow x → (x *ℤ pos g) *ℤ f.den ≡ f.num *ℤ pos d → AreNumbersUpto values g d xs i → AreNumbersUpto values g d xs' (i + 1)
numbers_more values g d i x f xs xs' ef made narrow exact before =
    let here : number_in (xs ++ x ∷ []) i ≡ x = get_or_push xs x (pos 0) i before.size in
    let kept : (c : ℕ) → c < i → number_in (xs ++ x ∷ []) c ≡ number_in xs c = λ c lt. get_or_append_left xs (x ∷ []) (pos 0) c (omega (arith, lt, before.size)) in
    let exact_here : (x *ℤ pos g) *ℤ (value_in values i).den ≡ (value_in values i).num *ℤ pos d = subst (λ (v : Fraction). (x *ℤ pos g) *ℤ v.den ≡ v.num *ℤ pos d) ef exact in
    subst (λ (ys : List ℤ). AreNumbersUpto values g d ys (i + 1)) (sym made) (record {
      size = length-append xs (x ∷ []) ∙ ap (λ n. n + 1) before.size;
      narrow = λ c lt.
          by_eq c i (λ same. subst (λ (z : ℤ). IsNarrow z) (sym (ap (λ n. number_in (xs ++ x ∷ []) n) same ∙ here)) narrow)
          (λ other. subst (λ (z : ℤ). IsNarrow z) (sym (kept c (below c lt other))) (before.narrow c (below c lt other)));
      exact = λ c lt.
          by_eq c i
          (λ same. subst (λ (n : ℕ). (number_in (xs ++ x ∷ []) n *ℤ pos g) *ℤ (value_in values n).den ≡ (value_in values n).num *ℤ pos d) (sym same) (ap (λ z. (z *ℤ pos g) *ℤ (value_in values i).den) here ∙ exact_here))
          (λ other. ap (λ z. (z *ℤ pos g) *ℤ (value_in values c).den) (kept c (below c lt other)) ∙ before.exact c (below c lt other));
    })
  where
    below : (c : ℕ) → c < i + 1 → (c ≡ i → ⊥) → c < i
    below c lt other = omega (arith, lt, other)

-- ---- over one denominator

pub over_made : (values : List Fraction) (l : ℕ) (d : ℤ) (xs : List ℤ) → AreNarrowFractions values → IsLeastCommon (length values) (den_in values) l → l < 2 ^ 63 → d ≡ pos l → AreNumbersUpto values 1 l xs (length values) → AreOver values d xs
over_made values l d xs h least small is numbers =
    let same : unsigned_abs d ≡ l = ap unsigned_abs is in
    record {
      positive = omega (arith, ints, is, least.positive);
      narrow = omega (arith, same, small);
      numbers = subst (λ (n : ℕ). AreNumbersUpto values 1 n xs (length values)) (sym same) numbers;
      lowest = λ t all.
          point_lowest (length values) l t (size_in values) (den_in values) (λ c. unsigned_abs (number_in xs c)) (fractions_are values h) least
          (λ c lt. omega (arith, sizes_of (number_in xs c) (value_in values c).num (value_in values c).den 1 l (numbers.exact c lt)))
          (subst (λ (n : ℕ). t ∣ n) same all.0)
          (λ c lt. at_place (λ z. t ∣ unsigned_abs z) xs c (omega (arith, lt, numbers.size)) all.1);
    }

abbrev pub ratio : (ℕ → ℕ) → (ℕ → ℕ) → ℕ → ℕ → ℕ
ratio p q d c = p c * d / q c

pub wide_too_large : (n : ℕ) (p q : ℕ → ℕ) → AreFractions n p q → IsTooLarge n q → IsWideOver n p q
wide_too_large n p q are t d hd h = inl (too_large_divides n d p q (ratio p q d) are hd t (λ c lt. div-mul_cancel (q c) (h c lt)))

pub wide_denominator : (n l : ℕ) (p q : ℕ → ℕ) → AreFractions n p q → IsLeastCommon n q l → 2 ^ 63 ≤ l → IsWideOver n p q
wide_denominator n l p q are least large d hd h =
    let le : l ≤ d = le_of_dvd hd (least_divides n l d p q (ratio p q d) are least (λ c lt. div-mul_cancel (q c) (h c lt))) in
    inl (omega (arith, le, large))

pub wide_number_over : (n l k : ℕ) (p q : ℕ → ℕ) → AreFractions n p q → IsLeastCommon n q l → k < n → 2 ^ 63 * (1 * q k) ≤ p k * l → IsWideOver n p q
wide_number_over n l k p q are least hk large d hd h =
    let le : l ≤ d = le_of_dvd hd (least_divides n l d p q (ratio p q d) are least (λ c lt. div-mul_cancel (q c) (h c lt))) in
    let m : p k * l ≤ p k * d = mul-le-mul_left (p k) le in
    inr (k, hk, omega (arith, large, m))

-- ---- along a direction

pub greatest_positive : (n g : ℕ) (p : ℕ → ℕ) → (((c : ℕ) → c < n → p c ≡ 0) → ⊥) → IsGreatestCommon n p g → 0 < g
greatest_positive n g p goes is =
    by_lt 0 g (λ lt. lt)
    (λ ge.
    let z : g ≡ 0 = omega (arith, ge) in
    absurd (goes (λ c lt. eq-zero_of_zero-dvd (subst (λ (m : ℕ). m ∣ p c) z (is.divides c lt)))))

pub along_made : (values : List Fraction) (l g : ℕ) (xs : List ℤ) → AreNarrowFractions values → IsLeastCommon (length values) (den_in values) l → IsGreatestCommon (length values) (size_in values) g → 0 < g → AreNumbersUpto values g l xs (length values) → AreAlong values xs
along_made values l g xs h least greatest some numbers = record {
  g = g;
  some = some;
  d = l;
  positive = least.positive;
  numbers = numbers;
  lowest = λ t all.
      ray_lowest (length values) l g t (size_in values) (den_in values) (λ c. unsigned_abs (number_in xs c)) (fractions_are values h) least greatest some
      (λ c lt. sizes_of (number_in xs c) (value_in values c).num (value_in values c).den g l (numbers.exact c lt))
      (λ c lt. at_place (λ z. t ∣ unsigned_abs z) xs c (omega (arith, lt, numbers.size)) all);
}

abbrev pub ratio_along : (ℕ → ℕ) → (ℕ → ℕ) → ℕ → ℕ → ℕ → ℕ
ratio_along p q a b c = p c * a / (b * q c)

ratio_is : (p q : ℕ → ℕ) (a b c : ℕ) → b * q c ∣ p c * a → (ratio_along p q a b c * b) * q c ≡ p c * a
ratio_is p q a b c h = omega (arith, div-mul_cancel (b * q c) h)

large_back : (p q a b y : ℕ) → (y * b) * q ≡ p * a → 2 ^ 63 ≤ y → 2 ^ 63 * (b * q) ≤ p * a
large_back p q a b y e h =
    let m : 2 ^ 63 * (b * q) ≤ y * (b * q) = mul-le-mul_right (b * q) h in
    omega (arith, m, e)

pub along_too_large : (n : ℕ) (p q : ℕ → ℕ) → AreFractions n p q → ((c : ℕ) → c < n → q c < 2 ^ 63) → IsTooLarge n q → IsWideAlong n p q
along_too_large n p q are narrow t a b ha hb h = (
  t.k,
  t.within,
  large_back (p t.k) (q t.k) a b (ratio_along p q a b t.k) (ratio_is p q a b t.k (h t.k t.within)) (too_large_along n a b p q (ratio_along p q a b) are narrow ha hb t (λ c lt. ratio_is p q a b c (h c lt))),
)

pub along_number : (n l g k : ℕ) (p q : ℕ → ℕ) → AreFractions n p q → IsLeastCommon n q l → IsGreatestCommon n p g → 0 < g → k < n → 2 ^ 63 * (g * q k) ≤ p k * l → IsWideAlong n p q
along_number n l g k p q are least greatest some hk large a b ha hb h =
    let y = ratio_along p q a b in
    let divides = ray_divides n l g a b p q y are least greatest (λ c lt. ratio_is p q a b c (h c lt)) in
    let up : 2 ^ 63 ≤ y k = wide_along (y k) (p k) (q k) l g a b (are.positive k hk) some ha hb (ratio_is p q a b k (h k hk)) divides large in
    (k, hk, large_back (p k) (q k) a b (y k) (ratio_is p q a b k (h k hk)) up)
