-- Laws of sums over lists.
use Rattle.std.proofs.Common.{ℕ, ◌+◌, ◌*◌, ◌<◌, ◌≤◌, ◌≡◌, refl, sym, ap, ◌∙◌, arith, ℤ, ◌+ℤ◌, ◌*ℤ◌, List, [], ◌∷◌, ◌++◌, length, get_or, take}
use Rattle.std.specs.Prelude.{unsigned_abs}
use Rattle.std.specs.List.{AllByRecursion}
use Rattle.std.proofs.lemmas.Int.{ints}
use Rattle.std.proofs.lemmas.List.{take_more}
use Rattle.std.proofs.Math.IntN.{+ℤ_idl, +ℤ_idr, +ℤ_assoc, *ℤ-zero}
use Rattle.lp_base.specs.Sums.{sum_over}
use Rattle.lp_base.proofs.Ring.{mul_add_left, abs_add, abs_mul}

pub sum_over-append : {T : Type 0} (f : T → ℤ) (xs ys : List T) → sum_over f (xs ++ ys) ≡ sum_over f xs +ℤ sum_over f ys
sum_over-append f [] ys = sym (+ℤ_idl (sum_over f ys))
sum_over-append f (x ∷ xs) ys = ap (λ z. f x +ℤ z) (sum_over-append f xs ys) ∙ sym (+ℤ_assoc (f x) (sum_over f xs) (sum_over f ys))

-- a sum of sums
pub sum_over-add : {T : Type 0} (f g : T → ℤ) (xs : List T) → sum_over (λ x. f x +ℤ g x) xs ≡ sum_over f xs +ℤ sum_over g xs
sum_over-add f g [] = refl
sum_over-add f g (x ∷ xs) = omega (arith, ints, sum_over-add f g xs)

-- a common factor
pub sum_over-times : {T : Type 0} (y : ℤ) (f : T → ℤ) (xs : List T) → sum_over (λ x. y *ℤ f x) xs ≡ y *ℤ sum_over f xs
sum_over-times y f [] = sym (*ℤ-zero y)
sum_over-times y f (x ∷ xs) = omega (arith, ints, sum_over-times y f xs, mul_add_left y (f x) (sum_over f xs))

-- a sum with one element more
pub sum_over-more : {T : Type 0} (f : T → ℤ) (xs : List T) (i : ℕ) (d : T) → i < length xs → sum_over f (take (i + 1) xs) ≡ sum_over f (take i xs) +ℤ f (get_or xs i d)
sum_over-more f xs i d h =
    rw (take_more xs i d h, sum_over-append f (take i xs) (get_or xs i d ∷ [])) (ap (λ z. sum_over f (take i xs) +ℤ z) (+ℤ_idr (f (get_or xs i d))))

-- a sum of products of numbers of at most m with numbers of at most n in size
pub products_small : {T : Type 0} (f g : T → ℤ) (m n : ℕ) (xs : List T) → AllByRecursion (λ x. (unsigned_abs (f x) ≤ m) × (unsigned_abs (g x) ≤ n)) xs → unsigned_abs (sum_over (λ x. f x *ℤ g x) xs) ≤ length xs * (m * n)
products_small f g m n [] h = omega (arith, ints)
products_small f g m n (x ∷ xs) h =
    let here = abs_mul (f x) (g x) m n h.0.0 h.0.1 in
    omega (arith, abs_add (f x *ℤ g x) (sum_over (λ z. f z *ℤ g z) xs), here, products_small f g m n xs h.1)
