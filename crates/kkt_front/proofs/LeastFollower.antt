-- Where y has multipliers, it is least in `follow`: the lower bound that the multipliers give for every y is attained.
use Rattle.std.proofs.Common.{◌≡◌, ℕ, ◌+◌, ◌<◌, sym, ap, subst, ◌∙◌, arith, inl, inr, ℤ, pos, ◌+ℤ◌, ◌*ℤ◌, ◌≤ℤ◌, length}
use Rattle.std.proofs.Math.IntN.{zero-*ℤ}
use Rattle.std.proofs.lemmas.Int.{ints}
use Rattle.lp_base.proofs.Ring.{le_of_mul_right, mul_add_right, mul_assoc, mul_comm, mul_le_left, mul_le_right, mul_swap}
use Rattle.lpcc_case.specs.Points.{Point, left_side}
use Rattle.front_text.specs.declared.problem.Bilevel.{Bilevel}
use Rattle.front_text.specs.declared.problem.Line.{Line}
use Rattle.front_text.specs.Problems.{IsBilevel, IsLine, coefficient_at}
use Rattle.kkt_front.specs.DeckTexts.{line_at, no_line, number_at}
use Rattle.kkt_front.specs.Solutions.{AreMultipliers, HasSameX, IsLeastFollower, IsWithMultipliers, MeetsLine, followed, multiplier_at, weighed}
use Rattle.kkt_front.proofs.Ranges.{sum_factor, sum_le, sum_of_terms, sum_same, sum_shift, sum_split, sum_swap, times_x, total_from}

-- what the x of a point and what its y give to a line
abbrev x_part : {n : ℕ} → Bilevel → Point n → Line → ℤ
x_part b p line = total_from (times_x line.terms p.x) 0 b.nx

abbrev y_term : {n : ℕ} → Bilevel → Point n → Line → ℕ → ℤ
y_term b p line k = coefficient_at line.terms (b.nx + k) *ℤ number_at p.x (b.nx + k)

abbrev y_part : {n : ℕ} → Bilevel → Point n → Line → ℤ
y_part b p line = total_from (y_term b p line) 0 b.ny

both_parts : {n : ℕ} (b : Bilevel) (p : Point n) (line : Line) → IsLine (b.nx + b.ny) line → left_side line.terms p.x ≡ x_part b p line +ℤ y_part b p line
both_parts b p line h =
    sym (sum_of_terms line.terms p.x (b.nx + b.ny) h.1) ∙ sum_split (times_x line.terms p.x) 0 b.nx b.ny
    ∙ ap (λ z. x_part b p line +ℤ z) (ap (λ k. total_from (times_x line.terms p.x) k b.ny) (let z : 0 + b.nx ≡ b.nx + 0 = omega arith in z) ∙ sym (sum_shift (times_x line.terms p.x) b.nx 0 b.ny))

-- the same x gives the same, in the denominators of both
same_part : {m n : ℕ} (b : Bilevel) (p : Point m) (q : Point n) (line : Line) → HasSameX b p q → x_part b p line *ℤ pos q.d ≡ x_part b q line *ℤ pos p.d
same_part b p q line h =
    mul_comm (x_part b p line) (pos q.d) ∙ sym (sum_factor (pos q.d) (times_x line.terms p.x) 0 b.nx)
    ∙ sum_same (λ j. pos q.d *ℤ times_x line.terms p.x j) (λ j. pos p.d *ℤ times_x line.terms q.x j) 0 b.nx (λ j _ l. each j (omega (arith, l)))
    ∙ sum_factor (pos p.d) (times_x line.terms q.x) 0 b.nx ∙ mul_comm (pos p.d) (x_part b q line)
  where
    each : (j : ℕ) → j < b.nx → pos q.d *ℤ times_x line.terms p.x j ≡ pos p.d *ℤ times_x line.terms q.x j
    each j l =
        let c = coefficient_at line.terms j in
        mul_comm (pos q.d) (times_x line.terms p.x j) ∙ mul_assoc c (number_at p.x j) (pos q.d) ∙ ap (λ z. c *ℤ z) (h j l)
        ∙ sym (mul_assoc c (number_at q.x j) (pos p.d)) ∙ mul_comm (times_x line.terms q.x j) (pos p.d)

-- d times what y costs is the sum over the lines of multiplier times y part
abbrev weight_of : {m n : ℕ} → Bilevel → Point m → Point n → ℕ → ℤ
weight_of b p q i = multiplier_at b p i *ℤ y_part b q (line_at b.low i)

weighed_cost : {m n : ℕ} (b : Bilevel) (p : Point m) (q : Point n) → AreMultipliers b p → followed b q *ℤ pos p.d ≡ total_from (weight_of b p q) 0 (length b.low)
weighed_cost b p q h =
    mul_comm (followed b q) (pos p.d) ∙ sym (sum_factor (pos p.d) (λ k. number_at b.follow k *ℤ number_at q.x (b.nx + k)) 0 b.ny)
    ∙ sum_same (λ k. pos p.d *ℤ (number_at b.follow k *ℤ number_at q.x (b.nx + k))) (λ k. total_from (part k) 0 (length b.low)) 0 b.ny (λ k _ l. each k (omega (arith, l)))
    ∙ sum_swap part 0 b.ny 0 (length b.low)
    ∙ sum_same (λ i. total_from (λ k. part k i) 0 b.ny) (weight_of b p q) 0 (length b.low) (λ i _ _. sum_factor (multiplier_at b p i) (y_term b q (line_at b.low i)) 0 b.ny)
  where
    part : ℕ → ℕ → ℤ
    part k i = multiplier_at b p i *ℤ y_term b q (line_at b.low i) k

    turned : (c m y : ℤ) → y *ℤ (c *ℤ m) ≡ m *ℤ (c *ℤ y)
    turned c m y = mul_comm y (c *ℤ m) ∙ mul_swap c m y ∙ mul_comm (c *ℤ y) m

    each : (k : ℕ) → k < b.ny → pos p.d *ℤ (number_at b.follow k *ℤ number_at q.x (b.nx + k)) ≡ total_from (part k) 0 (length b.low)
    each k l =
        let f = number_at b.follow k in
        let y = number_at q.x (b.nx + k) in
        mul_comm (pos p.d) (f *ℤ y) ∙ mul_swap f y (pos p.d) ∙ ap (λ z. z *ℤ y) (sym (h.sums k l)) ∙ mul_comm (weighed b p k) y
        ∙ sym (sum_factor y (λ i. coefficient_at (line_at b.low i).terms (b.nx + k) *ℤ multiplier_at b p i) 0 (length b.low))
        ∙ sum_same (λ i. y *ℤ (coefficient_at (line_at b.low i).terms (b.nx + k) *ℤ multiplier_at b p i)) (part k) 0 (length b.low)
        (λ i _ _. turned (coefficient_at (line_at b.low i).terms (b.nx + k)) (multiplier_at b p i) y)

-- at a tight line the y part of the point is no more than that of another one that meets the line
tight_part : (x y u v r : ℤ) (d e : ℕ) → x +ℤ y ≡ r *ℤ pos d → (r *ℤ pos e) ≤ℤ (u +ℤ v) → x *ℤ pos e ≡ u *ℤ pos d → (y *ℤ pos e) ≤ℤ (v *ℤ pos d)
tight_part x y u v r d e tight met same =
    omega (arith, ints, ap (λ z. z *ℤ pos e) tight, mul_add_right (pos e) x y, mul_le_right d (r *ℤ pos e) (u +ℤ v) met, mul_add_right (pos d) u v, same, mul_swap r (pos d) (pos e))

line_part : {m n : ℕ} (b : Bilevel) (p : Point m) (q : Point n) (i : ℕ) → IsBilevel b → AreMultipliers b p → HasSameX b p q → MeetsLine q (line_at b.low i) → i < length b.low
    → (weight_of b p p i *ℤ pos q.d) ≤ℤ (weight_of b p q i *ℤ pos p.d)
line_part b p q i h k same met l = elim (k.tight i l) [
  | inl tight ↦
      let line = line_at b.low i in
      let fact = tight_part (x_part b p line) (y_part b p line) (x_part b q line) (y_part b q line) line.rhs p.d q.d
      (sym (both_parts b p line (h.low i no_line l)) ∙ tight) (subst (λ z. (line.rhs *ℤ pos q.d) ≤ℤ z) (both_parts b q line (h.low i no_line l)) met) (same_part b p q line same) in
      subst (λ z. z ≤ℤ (weight_of b p q i *ℤ pos p.d)) (sym (mul_assoc (multiplier_at b p i) (y_part b p line) (pos q.d)))
      (subst (λ z. (multiplier_at b p i *ℤ (y_part b p line *ℤ pos q.d)) ≤ℤ z) (sym (mul_assoc (multiplier_at b p i) (y_part b q line) (pos p.d)))
      (mul_le_left (multiplier_at b p i) (y_part b p line *ℤ pos q.d) (y_part b q line *ℤ pos p.d) (k.nonnegative i l) fact))
  | inr none ↦
      let line = line_at b.low i in
      let left : weight_of b p p i *ℤ pos q.d ≡ pos 0 = ap (λ z. (z *ℤ y_part b p line) *ℤ pos q.d) none ∙ ap (λ z. z *ℤ pos q.d) (zero-*ℤ (y_part b p line)) ∙ zero-*ℤ (pos q.d) in
      let right : weight_of b p q i *ℤ pos p.d ≡ pos 0 = ap (λ z. (z *ℤ y_part b q line) *ℤ pos p.d) none ∙ ap (λ z. z *ℤ pos p.d) (zero-*ℤ (y_part b q line)) ∙ zero-*ℤ (pos p.d) in
      omega (arith, ints, left, right)
]

pub least_follower : {n : ℕ} (b : Bilevel) (p : Point n) → IsBilevel b → IsWithMultipliers b p → IsLeastFollower b p
least_follower b p h m q same met =
    let count = length b.low in
    let sums = sum_le (λ i. pos q.d *ℤ weight_of b p p i) (λ i. pos p.d *ℤ weight_of b p q i) 0 count (λ i _ l. turned i (omega (arith, l))) in
    let left = sum_factor (pos q.d) (weight_of b p p) 0 count ∙ mul_comm (pos q.d) (total_from (weight_of b p p) 0 count) ∙ ap (λ z. z *ℤ pos q.d) (sym (weighed_cost b p p m.multipliers)) ∙ mul_swap (followed b p) (pos p.d) (pos q.d) in
    let right = sum_factor (pos p.d) (weight_of b p q) 0 count ∙ mul_comm (pos p.d) (total_from (weight_of b p q) 0 count) ∙ ap (λ z. z *ℤ pos p.d) (sym (weighed_cost b p q m.multipliers)) in
    le_of_mul_right p.d (followed b p *ℤ pos q.d) (followed b q *ℤ pos p.d) p.positive
    (subst (λ z. z ≤ℤ ((followed b q *ℤ pos p.d) *ℤ pos p.d)) left (subst (λ z. total_from (λ i. pos q.d *ℤ weight_of b p p i) 0 count ≤ℤ z) right sums))
  where
    turned : (i : ℕ) → i < length b.low → (pos q.d *ℤ weight_of b p p i) ≤ℤ (pos p.d *ℤ weight_of b p q i)
    turned i l =
        subst (λ z. z ≤ℤ (pos p.d *ℤ weight_of b p q i)) (mul_comm (weight_of b p p i) (pos q.d))
        (subst (λ z. (weight_of b p p i *ℤ pos q.d) ≤ℤ z) (mul_comm (weight_of b p q i) (pos p.d)) (line_part b p q i h m.multipliers same (met i l) l))
