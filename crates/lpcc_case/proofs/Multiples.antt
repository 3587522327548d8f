-- Multiples of a point meet the same constraints.
use Rattle.std.proofs.Common.{ℕ, ◌*◌, ◌<◌, ◌≡◌, ◌∙◌, sym, ap, arith, ℤ, pos, ◌+ℤ◌, ◌*ℤ◌, List, [], ◌∷◌, get_or, map}
use Rattle.std.specs.Prelude.{◌↔◌}
use Rattle.std.proofs.lemmas.Int.{ints}
use Rattle.std.proofs.Math.ListN.{get_or-map}
use Rattle.std.proofs.Math.IntN.{*ℤ-zero, zero-*ℤ}
use Rattle.lp_base.proofs.Ring.{mul_assoc, mul_comm, mul_add_left, mul_le_right, le_of_mul_right, mul_cancel_right}
use Rattle.lpcc_case.specs.declared.constraint.Constraint.{Constraint}
use Rattle.lpcc_case.specs.declared.constraint.Kind.{Kind}
use Rattle.lpcc_case.specs.declared.constraint.Kind.TheVariants.{Ge, Eq}
use Rattle.lpcc_case.specs.Points.{Point, Relates, Meets, IsTight, IsMultiple, left_side}

-- a column's number in the multiple
read-multiple : (k : ℕ) (x : List ℤ) (j : ℕ) → get_or (map (λ z. pos k *ℤ z) x) j (pos 0) ≡ (pos k *ℤ get_or x j (pos 0))
read-multiple k x j = ap (λ d. get_or (map (λ z. pos k *ℤ z) x) j d) (sym (*ℤ-zero (pos k))) ∙ get_or-map (λ z. pos k *ℤ z) x j (pos 0)

pub left_side-multiple : (k : ℕ) (terms : List (ℕ × ℤ)) (x : List ℤ) → left_side terms (map (λ z. pos k *ℤ z) x) ≡ (left_side terms x *ℤ pos k)
left_side-multiple k [] x = sym (zero-*ℤ (pos k))
left_side-multiple k (t ∷ terms) x =
    let v = get_or x t.0 (pos 0) in
    let here : (t.1 *ℤ get_or (map (λ z. pos k *ℤ z) x) t.0 (pos 0)) ≡ ((t.1 *ℤ v) *ℤ pos k) =
    ap (λ z. t.1 *ℤ z) (read-multiple k x t.0 ∙ mul_comm (pos k) v) ∙ sym (mul_assoc t.1 v (pos k)) in
    let rest = left_side-multiple k terms x in
    let both = mul_add_left (pos k) (t.1 *ℤ v) (left_side terms x) in
    omega (arith, ints, here, rest, both, mul_comm (pos k) ((t.1 *ℤ v) +ℤ left_side terms x), mul_comm (pos k) (t.1 *ℤ v), mul_comm (pos k) (left_side terms x))

right_side-multiple : (b : ℤ) (k d : ℕ) → (b *ℤ pos (k * d)) ≡ ((b *ℤ pos d) *ℤ pos k)
right_side-multiple b k d = ap (λ z. b *ℤ z) (mul_comm (pos k) (pos d)) ∙ sym (mul_assoc b (pos d) (pos k))

-- a relation between multiples is that between the numbers
relates-multiple : (kind : Kind) (k : ℕ) (u v : ℤ) → 0 < k → Relates kind (u *ℤ pos k) (v *ℤ pos k) ↔ Relates kind u v
relates-multiple Ge k u v h = (λ r. le_of_mul_right k v u h r, λ r. mul_le_right k v u r)
relates-multiple Eq k u v h = (λ r. mul_cancel_right k u v h r, λ r. ap (λ z. z *ℤ pos k) r)

-- the factor is above 0, since denominators are
factor-positive : (k d e : ℕ) → e ≡ k * d → 0 < e → 0 < k
factor-positive k d e same h = grind arith

pub relates-of-multiple : (n k : ℕ) (kind : Kind) (terms : List (ℕ × ℤ)) (b : ℤ) (p q : Point n) → IsMultiple k p q → Relates kind (left_side terms q.x) (b *ℤ pos q.d) ↔ Relates kind (left_side terms p.x) (b *ℤ pos p.d)
relates-of-multiple n k kind terms b p q m =
    let left : left_side terms q.x ≡ (left_side terms p.x *ℤ pos k) = ap (left_side terms) m.numbers ∙ left_side-multiple k terms p.x in
    let right : (b *ℤ pos q.d) ≡ ((b *ℤ pos p.d) *ℤ pos k) = ap (λ d. b *ℤ pos d) m.denominator ∙ right_side-multiple b k p.d in
    rw (left, right) (relates-multiple kind k (left_side terms p.x) (b *ℤ pos p.d) (factor-positive k p.d q.d m.denominator q.positive))

pub meets-multiple : (n k : ℕ) (c : Constraint) (p q : Point n) → IsMultiple k p q → Meets q c ↔ Meets p c
meets-multiple n k c p q m = relates-of-multiple n k c.kind c.terms c.rhs p q m

pub tight-multiple : (n k : ℕ) (c : Constraint) (p q : Point n) → IsMultiple k p q → IsTight q c ↔ IsTight p c
tight-multiple n k c p q m = relates-of-multiple n k Eq c.terms c.rhs p q m
