-- Where a ray is followed from a point, and how far the cost falls.
use Rattle.std.proofs.Common.{ℕ, zero, suc, ◌+◌, ◌*◌, ◌<◌, ◌≤◌, ◌≡◌, refl, sym, ap, ◌∙◌, subst, arith, ℤ, pos, negsuc, ◌+ℤ◌, ◌*ℤ◌, ◌≤ℤ◌, ◌<ℤ◌, List, [], ◌∷◌, length, get_or, inl, inr, ◌⊎◌}
use Rattle.std.specs.Prelude.{unsigned_abs, neg_ℤ}
use Rattle.std.proofs.lemmas.Int.{ints}
use Rattle.std.proofs.lemmas.List.{length-map, get_or_default}
use Rattle.std.proofs.lemmas.List.FromFn.{length-range_with_len, get_or-range_with_len}
use Rattle.std.proofs.Math.ListN.{get_or-map}
use Rattle.std.proofs.Math.IntN.{*ℤ-zero, zero-*ℤ}
use Rattle.std.proofs.Math.Nat.{mul-le-mul_left}
use Rattle.lp_base.specs.Sums.{dot}
use Rattle.lp_base.proofs.Ring.{mul_assoc, mul_comm, mul_add_left, mul_add_right, mul_le_right, mul_le_left}
use Rattle.nogoods.specs.declared.choice.Choice.{Choice}
use Rattle.nogoods.specs.declared.choice.Side.{Side}
use Rattle.nogoods.specs.declared.choice.Side.TheVariants.{A, B}
use Rattle.lpcc_case.specs.declared.constraint.Kind.{Kind}
use Rattle.lpcc_case.specs.declared.constraint.Kind.TheVariants.{Ge, Eq}
use Rattle.lpcc_case.specs.Instance.{Instance, constraint_at, chosen, pair_at, member}
use Rattle.lpcc_case.specs.Points.{Point, Relates, MeetsAll, IsTight, IsTightAt, IsComplementary, IsFeasible, Recedes, left_side, cost_at}
use Rattle.cert_check.specs.Acceptance.{IsWholePiece}

-- k times the direction r from x on, for lists of one length
abbrev pub walked : ℤ → List ℤ → List ℤ → List ℤ
walked k [] r = []
walked k (u ∷ x) [] = u ∷ x
walked k (u ∷ x) (v ∷ r) = (u +ℤ (k *ℤ v)) ∷ walked k x r

pub length-walked : (k : ℤ) (x r : List ℤ) → length (walked k x r) ≡ length x
length-walked k [] r = refl
length-walked k (u ∷ x) [] = refl
length-walked k (u ∷ x) (v ∷ r) = omega (arith, length-walked k x r)

walked_at : (k : ℤ) (x r : List ℤ) (j : ℕ) → length x ≡ length r → get_or (walked k x r) j (pos 0) ≡ (get_or x j (pos 0) +ℤ (k *ℤ get_or r j (pos 0)))
walked_at k [] [] j same = omega (arith, ints, *ℤ-zero k)
walked_at k [] (v ∷ r) j same = absurd (omega (arith, same))
walked_at k (u ∷ x) [] j same = absurd (omega (arith, same))
walked_at k (u ∷ x) (v ∷ r) zero same = refl
walked_at k (u ∷ x) (v ∷ r) (suc j) same = walked_at k x r j (omega (arith, same))

-- a product with a number that was walked to
times_walked : (c u k v : ℤ) → (c *ℤ (u +ℤ (k *ℤ v))) ≡ ((c *ℤ u) +ℤ (k *ℤ (c *ℤ v)))
times_walked c u k v =
    let swap : (c *ℤ (k *ℤ v)) ≡ (k *ℤ (c *ℤ v)) = sym (mul_assoc c k v) ∙ ap (λ z. z *ℤ v) (mul_comm c k) ∙ mul_assoc k c v in
    mul_add_left c u (k *ℤ v) ∙ ap (λ z. (c *ℤ u) +ℤ z) swap

pub left_side-walked : (k : ℤ) (terms : List (ℕ × ℤ)) (x r : List ℤ) → length x ≡ length r → left_side terms (walked k x r) ≡ (left_side terms x +ℤ (k *ℤ left_side terms r))
left_side-walked k [] x r same = omega (arith, ints, *ℤ-zero k)
left_side-walked k (t ∷ terms) x r same =
    let u = get_or x t.0 (pos 0) in
    let v = get_or r t.0 (pos 0) in
    let here : (t.1 *ℤ get_or (walked k x r) t.0 (pos 0)) ≡ ((t.1 *ℤ u) +ℤ (k *ℤ (t.1 *ℤ v))) = ap (λ z. t.1 *ℤ z) (walked_at k x r t.0 same) ∙ times_walked t.1 u k v in
    omega (arith, ints, here, left_side-walked k terms x r same, mul_add_left k (t.1 *ℤ v) (left_side terms r))

pub dot-walked : (k : ℤ) (c x r : List ℤ) → length x ≡ length r → dot c (walked k x r) ≡ (dot c x +ℤ (k *ℤ dot c r))
dot-walked k [] x r same = omega (arith, ints, *ℤ-zero k)
dot-walked k (w ∷ c) [] [] same = omega (arith, ints, *ℤ-zero k)
dot-walked k (w ∷ c) [] (v ∷ r) same = absurd (omega (arith, same))
dot-walked k (w ∷ c) (u ∷ x) [] same = absurd (omega (arith, same))
dot-walked k (w ∷ c) (u ∷ x) (v ∷ r) same =
    omega (arith, ints, times_walked w u k v, dot-walked k c x r (omega (arith, same)), mul_add_left k (w *ℤ v) (dot c r))

-- n times the direction from p on, as a point of the same denominator
abbrev pub followed : (a : Instance) (p : Point a.columns) → List ℤ → ℕ → Point a.columns
followed a p r n = record { x = walked (pos n) p.x r; d = p.d; size = length-walked (pos n) p.x r ∙ p.size; positive = p.positive }

walked_relates : (kind : Kind) (n : ℕ) (left right along : ℤ) → Relates kind left right → Relates kind along (pos 0) → Relates kind (left +ℤ (pos n *ℤ along)) right
walked_relates Ge n left right along here keeps = omega (arith, ints, here, mul_le_left (pos n) (pos 0) along (omega (arith, ints)) keeps, *ℤ-zero (pos n))
walked_relates Eq n left right along here keeps = omega (arith, ints, here, ap (λ z. pos n *ℤ z) keeps, *ℤ-zero (pos n))

followed_relates : (a : Instance) (p : Point a.columns) (r : List ℤ) (n : ℕ) (kind : Kind) (terms : List (ℕ × ℤ)) (b : ℤ) → length r ≡ a.columns → Relates kind (left_side terms p.x) (b *ℤ pos p.d) → Relates kind (left_side terms r) (pos 0) → Relates kind (left_side terms (followed a p r n).x) (b *ℤ pos p.d)
followed_relates a p r n kind terms b size here keeps =
    rw (left_side-walked (pos n) terms p.x r (p.size ∙ sym size)) (walked_relates kind n (left_side terms p.x) (b *ℤ pos p.d) (left_side terms r) here keeps)

followed_met : (a : Instance) (p : Point a.columns) (piece : List Choice) (r : List ℤ) (n : ℕ) → Recedes a piece r → MeetsAll a p → MeetsAll a (followed a p r n)
followed_met a p piece r n recedes met k d inside =
    let c = get_or a.constraints k d in
    followed_relates a p r n c.kind c.terms c.rhs recedes.size (met k d inside) (recedes.keeps k d inside)

followed_tight : (a : Instance) (p : Point a.columns) (piece : List Choice) (r : List ℤ) (n : ℕ) → Recedes a piece r → IsTightAt a p piece → IsTightAt a (followed a p r n) piece
followed_tight a p piece r n recedes tight k d inside =
    let c = chosen a (get_or piece k d) in
    followed_relates a p r n Eq c.terms c.rhs recedes.size (tight k d inside) (recedes.stays k d inside)

-- ---- a whole piece leaves no pair without a tight member

one_of_two : (T : ℕ → Type 0) (q : ℕ × ℕ) (s : Side) → T (member q s) → T q.0 ⊎ T q.1
one_of_two T q A h = inl h
one_of_two T q B h = inr h

pub whole_size : (a : Instance) (piece : List Choice) → IsWholePiece a piece → length piece ≡ length a.pairs
whole_size a piece whole = sym (length-map piece (λ c. c.pair)) ∙ ap length whole ∙ length-range_with_len 0 (length a.pairs)

pub whole_at : (a : Instance) (piece : List Choice) (k : ℕ) (d : Choice) → IsWholePiece a piece → k < length a.pairs → (get_or piece k d).pair ≡ k
whole_at a piece k d whole inside =
    let first : 0 + k ≡ k = omega arith in
    sym (get_or-map (λ (e : Choice). e.pair) piece k d) ∙ ap (λ xs. get_or xs k d.pair) whole ∙ get_or-range_with_len 0 (length a.pairs) k d.pair inside ∙ first

pub complementary_from_piece : (a : Instance) (p : Point a.columns) (piece : List Choice) → IsWholePiece a piece → IsTightAt a p piece → IsComplementary a p
complementary_from_piece a p piece whole tight k d inside =
    let none : Choice = record { pair = 0; side = A } in
    let within : k < length piece = omega (arith, inside, whole_size a piece whole) in
    let c = get_or piece k none in
    let T : ℕ → Type 0 = λ m. IsTight p (constraint_at a m) in
    let here : T (member (pair_at a c.pair) c.side) = tight k none within in
    let there : T (member (pair_at a k) c.side) = subst (λ m. T (member (pair_at a m) c.side)) (whole_at a piece k none whole inside) here in
    let same : pair_at a k ≡ get_or a.pairs k d = get_or_default a.pairs k (length a.constraints, length a.constraints) d inside in
    subst (λ q. T q.0 ⊎ T q.1) same (one_of_two T (pair_at a k) c.side there)

-- ---- how far

minus_times : (b d : ℕ) → (neg_ℤ (pos b) *ℤ pos d) ≡ neg_ℤ (pos (b * d))
minus_times b d =
    let nothing : (pos b +ℤ neg_ℤ (pos b)) ≡ pos 0 = omega (arith, ints) in
    omega (arith, ints, mul_add_right (pos d) (pos b) (neg_ℤ (pos b)), ap (λ z. z *ℤ pos d) nothing, zero-*ℤ (pos d))

times_minus_one : (t : ℕ) → (pos t *ℤ negsuc 0) ≡ neg_ℤ (pos t)
times_minus_one t = omega (arith, ints)

-- from a cost of at most n, down by n + m + d, below what is at least -m
below_all : (cost w y : ℤ) (t m n d : ℕ) → cost ≤ℤ pos n → w ≤ℤ neg_ℤ (pos t) → neg_ℤ (pos m) ≤ℤ y → t ≡ n + m + d → 0 < d → (cost +ℤ w) <ℤ y
below_all cost w y t m n d few down above apart some = omega (arith, ints, few, down, above, apart, some)

at_most : (z : ℤ) (n : ℕ) → unsigned_abs z ≤ n → z ≤ℤ pos n
at_most z n h = omega (arith, ints, h)

at_least : (z : ℤ) → neg_ℤ (pos (unsigned_abs z)) ≤ℤ z
at_least z = omega (arith, ints)

far_enough : (cost fall bound : ℤ) (d : ℕ) → 0 < d → fall <ℤ pos 0 → (cost +ℤ (pos ((unsigned_abs cost + unsigned_abs bound + 1) * d) *ℤ fall)) <ℤ (bound *ℤ pos d)
far_enough cost fall bound d some falls =
    let c = unsigned_abs cost in
    let b = unsigned_abs bound in
    let t = (c + b + 1) * d in
    let down : (pos t *ℤ fall) ≤ℤ (pos t *ℤ negsuc 0) = mul_le_left (pos t) fall (negsuc 0) (omega (arith, ints)) (omega (arith, ints, falls)) in
    let above : (neg_ℤ (pos b) *ℤ pos d) ≤ℤ (bound *ℤ pos d) = mul_le_right d (neg_ℤ (pos b)) bound (at_least bound) in
    let first : c * 1 ≤ c * d = mul-le-mul_left c (omega arith) in
    let few : c ≤ c * d = omega (arith, first) in
    below_all cost (pos t *ℤ fall) (bound *ℤ pos d) t (b * d) (c * d) d (at_most cost (c * d) few)
    (subst (λ z. (pos t *ℤ fall) ≤ℤ z) (times_minus_one t) down) (subst (λ z. z ≤ℤ (bound *ℤ pos d)) (minus_times b d) above) (omega arith) some

pub falls_below : (a : Instance) (piece : List Choice) (p : Point a.columns) (r : List ℤ) (bound : ℤ) → IsWholePiece a piece → MeetsAll a p → IsTightAt a p piece → Recedes a piece r → (q : Point a.columns) × IsFeasible a q × (cost_at a q <ℤ (bound *ℤ pos q.d))
falls_below a piece p r bound whole met tight recedes =
    let n = (unsigned_abs (cost_at a p) + unsigned_abs bound + 1) * p.d in
    let q = followed a p r n in
    let feasible : IsFeasible a q = record {
      met = followed_met a p piece r n recedes met;
      complementary = complementary_from_piece a q piece whole (followed_tight a p piece r n recedes tight);
    } in
    let cost : cost_at a q ≡ (cost_at a p +ℤ (pos n *ℤ dot a.cost r)) = dot-walked (pos n) a.cost p.x r (p.size ∙ sym recedes.size) in
    (q, feasible, subst (λ z. z <ℤ (bound *ℤ pos p.d)) (sym cost) (far_enough (cost_at a p) (dot a.cost r) bound p.d p.positive recedes.falls))
