-- Laws of sums, products, order and size on the whole numbers, beyond those of std.
use Rattle.std.proofs.Common.{ℕ, ◌+◌, ◌*◌, ◌<◌, ◌≤◌, ◌≡◌, ap, sym, ◌∙◌, arith, ℤ, pos, negsuc, ◌+ℤ◌, ◌≤ℤ◌, ◌<ℤ◌}
use Rattle.std.proofs.lemmas.Int.{ints, unsigned_abs-mul, by_lt_z}
use Rattle.std.proofs.Math.Nat.{mul-le-mul, mul-le-mul_right}
use lib.IntN.{◌*ℤ◌, nat_abs}
use borrow.Author.Differences.{up, down, sum_is_lem, product_is, le_out}

-- products distribute over sums, on either side
pub mul_add_right : (c a b : ℤ) → (a +ℤ b) *ℤ c ≡ (a *ℤ c) +ℤ (b *ℤ c)
mul_add_right c a b = omega (arith, ints, ap (λ n. n * up c) (sum_is_lem a b), ap (λ n. n * down c) (sum_is_lem a b))

pub mul_add_left : (c a b : ℤ) → c *ℤ (a +ℤ b) ≡ (c *ℤ a) +ℤ (c *ℤ b)
mul_add_left c a b = omega (arith, ints, ap (λ n. up c * n) (sum_is_lem a b), ap (λ n. down c * n) (sum_is_lem a b))

pub mul_assoc : (a b c : ℤ) → (a *ℤ b) *ℤ c ≡ a *ℤ (b *ℤ c)
mul_assoc a b c =
    let p = product_is a b in
    let q = product_is b c in
    omega (
      arith,
      ints,
      ap (λ n. n * up c) p.0,
      ap (λ n. n * down c) p.0,
      ap (λ n. n * up c) p.1,
      ap (λ n. n * down c) p.1,
      ap (λ n. up a * n) q.0,
      ap (λ n. down a * n) q.0,
      ap (λ n. up a * n) q.1,
      ap (λ n. down a * n) q.1,
    )

pub mul_comm : (a b : ℤ) → a *ℤ b ≡ b *ℤ a
mul_comm a b = omega (arith, ints)

-- the size of a sum and of a product
pub abs_add : (a b : ℤ) → nat_abs (a +ℤ b) ≤ nat_abs a + nat_abs b
abs_add a b = omega (arith, ints)

pub abs_mul : (a b : ℤ) (m n : ℕ) → nat_abs a ≤ m → nat_abs b ≤ n → nat_abs (a *ℤ b) ≤ m * n
abs_mul a b m n h k = omega (arith, unsigned_abs-mul a b, mul-le-mul h k)

-- a factor that is not negative keeps the order
pub mul_le_right : (n : ℕ) (a b : ℤ) → a ≤ℤ b → (a *ℤ pos n) ≤ℤ (b *ℤ pos n)
mul_le_right n a b h = omega (arith, ints, mul-le-mul_right n (le_out a b h))

pub mul_le_left : (y a b : ℤ) → pos 0 ≤ℤ y → a ≤ℤ b → (y *ℤ a) ≤ℤ (y *ℤ b)
mul_le_left (pos n) a b h k = omega (arith, ints, mul_le_right n a b k, mul_comm (pos n) a, mul_comm (pos n) b)
mul_le_left (negsuc n) a b h k = absurd (omega (arith, ints))

-- factors change places
pub mul_swap : (a b c : ℤ) → (a *ℤ b) *ℤ c ≡ (a *ℤ c) *ℤ b
mul_swap a b c = mul_assoc a b c ∙ ap (λ z. a *ℤ z) (mul_comm b c) ∙ sym (mul_assoc a c b)

pub mul_shuffle : (a b c d : ℤ) → (a *ℤ b) *ℤ (c *ℤ d) ≡ (a *ℤ c) *ℤ (b *ℤ d)
mul_shuffle a b c d =
    sym (mul_assoc (a *ℤ b) c d) ∙ ap (λ z. z *ℤ d) (mul_swap a b c) ∙ mul_assoc (a *ℤ c) b d

-- a factor above 0 keeps the strict order, and may be cancelled
pub mul_lt_right : (n : ℕ) (a b : ℤ) → 0 < n → a <ℤ b → (a *ℤ pos n) <ℤ (b *ℤ pos n)
mul_lt_right n a b h k = omega (arith, ints, mul_le_right n (a +ℤ pos 1) b (omega (arith, ints)), mul_add_right (pos n) a (pos 1))

pub lt_of_mul_right : (n : ℕ) (a b : ℤ) → (a *ℤ pos n) <ℤ (b *ℤ pos n) → a <ℤ b
lt_of_mul_right n a b h = by_lt_z a b (λ lt. lt) (λ not_lt. absurd (omega (arith, ints, mul_le_right n b a not_lt)))

pub le_of_mul_right : (n : ℕ) (a b : ℤ) → 0 < n → (a *ℤ pos n) ≤ℤ (b *ℤ pos n) → a ≤ℤ b
le_of_mul_right n a b p h = by_lt_z b a (λ lt. absurd (omega (arith, ints, mul_lt_right n b a p lt))) (λ not_lt. not_lt)

pub mul_cancel_right : (n : ℕ) (a b : ℤ) → 0 < n → (a *ℤ pos n) ≡ (b *ℤ pos n) → a ≡ b
mul_cancel_right n a b p e =
    by_lt_z a b (λ lt. absurd (omega (arith, ints, mul_lt_right n a b p lt)))
    (λ not_lt. by_lt_z b a (λ lt. absurd (omega (arith, ints, mul_lt_right n b a p lt))) (λ again. omega (arith, ints)))
