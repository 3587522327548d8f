-- Sums over the views, and numbers modulo 2^64.
use Rattle.std.proofs.Common.{ℕ, zero, suc, ◌+◌, ◌<◌, ◌≤◌, ◌≡◌, ◌%◌, refl, sym, ap, ◌∙◌, arith, List, [], ◌∷◌, length, get_or, set, Bool, true, false, cond}
use Rattle.std.specs.Prelude.{sum_by}
use Rattle.std.proofs.Math.Nat.{suc-mod}
use Rattle.std.proofs.lemmas.List.Sums.{sum_by-cons, sum_by-set}
use mathlib.Core.Option.{some, some-injective, some-ne-none}
use lib.ListN.{get_elem?}

one_or_none : (b : Bool) → cond b 1 0 ≤ 1
one_or_none true = omega arith
one_or_none false = omega arith

module _ {A : Type 0} where
  pub in_range : (l : List A) (i : ℕ) (a : A) → get_elem? l i ≡ some a → i < length l
  in_range [] i a e = absurd (some-ne-none a (sym e))
  in_range (x ∷ xs) zero a e = omega arith
  in_range (x ∷ xs) (suc i) a e = omega (arith, in_range xs i a e)

  get_at : (l : List A) (i : ℕ) (a : A) → get_elem? l i ≡ some a → get_or l i a ≡ a
  get_at [] i a e = refl
  get_at (x ∷ xs) zero a e = some-injective x a e
  get_at (x ∷ xs) (suc i) a e = get_at xs i a e

  pub total_set : (f : A → ℕ) (l : List A) (i : ℕ) (a b : A) → get_elem? l i ≡ some a → sum_by f (set l i b) + f a ≡ sum_by f l + f b
  total_set f l i a b e =
      let s = sum_by-set f l i b a (in_range l i a e) in
      omega (arith, s, ap f (get_at l i a e))

  pub few_of : (test : A → Bool) (l : List A) → sum_by (λ a. cond (test a) 1 0) l ≤ length l
  few_of test [] = omega arith
  few_of test (x ∷ xs) = omega (arith, sum_by-cons (λ a. cond (test a) 1 0) x xs, few_of test xs, one_or_none (test x))

-- 1 where it is true, and else 0
abbrev pub one_if : Bool → ℕ
one_if b = cond b 1 0

pub counts : (b : Bool) → b ≡ true → one_if b ≡ 1
counts b e = ap one_if e

pub counts_not : (b : Bool) → b ≡ false → one_if b ≡ 0
counts_not b e = ap one_if e

pub next_number : (k m n : ℕ) → k ≡ n % m → (k + 1) % m ≡ (n + 1) % m
next_number k m n e =
    let one : (i : ℕ) → i + 1 ≡ suc i = λ i. omega arith in
    let a : (k + 1) % m ≡ suc (n % m) % m = ap (λ (j : ℕ). (j + 1) % m) e ∙ ap (λ (j : ℕ). j % m) (one (n % m)) in
    a ∙ sym (suc-mod n m) ∙ ap (λ (j : ℕ). j % m) (sym (one n))
