-- The merge of two lists of terms, term by term.
use Rattle.std.proofs.Common.{ℕ, ◌+◌, ◌^◌, ◌≤◌, ◌<◌, ◌≡◌, ◌∙◌, sym, ap, subst, arith, ℤ, pos, ◌+ℤ◌, ◌*ℤ◌, List, [], ◌∷◌, ◌++◌, length, drop, get_or, to_z, of_z}
use Rattle.std.proofs.lemmas.Int.{ints}
use Rattle.std.proofs.Math.IntN.{zero-*ℤ, *ℤ-zero, +ℤ_idl, +ℤ_idr}
use Rattle.std.specs.Prelude.{unsigned_abs}
use mir.Syntax.{w64}
use Rattle.lp_base.proofs.Ring.{mul_add_right, mul_add_left, mul_assoc}
use Rattle.dict.specs.Terms.{weigh, without, AreTerms}
use Rattle.dict.proofs.Machine.{read_again}
use Rattle.dict.proofs.SparseSums.{weigh_end, terms_end, terms_higher, terms_order, unroll, past_end}

-- what `put` makes, where the number is not zero
pub put_weighs : (before after : List (ℕ × ℤ)) (at : ℕ) (z : ℤ) → after ≡ before ++ (at, z) ∷ [] → (v : ℕ → ℤ) → weigh after v ≡ weigh before v +ℤ (z *ℤ v at)
put_weighs before after at z e v = rw e (weigh_end before (at, z) v)

pub put_terms : (before after : List (ℕ × ℤ)) (at : ℕ) (z : ℤ) → after ≡ before ++ (at, z) ∷ [] → 0 < unsigned_abs z → (bound low : ℕ) → unsigned_abs z < bound → AreTerms bound low at before → AreTerms bound low (at + 1) after
put_terms before after at z e nz bound low small h = rw e (terms_end bound low at at z before h (omega arith) nz small)

-- out is the merge so far, and ls and rs are what is left on the two sides
pub record Merging (high : ℕ) (p a : ℤ) (e : ℕ) (xs ys ls rs out : List (ℕ × ℤ)) : Type 0 where
  pub low : ℕ
  pub done : AreTerms (2 ^ 127) 0 low out
  pub left : AreTerms (2 ^ 63) low high ls
  pub right : AreTerms (2 ^ 63) low high rs
  pub weighs : (v : ℕ → ℤ) → weigh out v +ℤ ((p *ℤ weigh ls (without e v)) +ℤ (a *ℤ weigh rs v)) ≡ (p *ℤ weigh xs (without e v)) +ℤ (a *ℤ weigh ys v)

-- one place with x on the left and y on the right; k is what is kept of x
both_sum : (o o' p a k x y w v ls rs : ℤ) → o' ≡ o +ℤ (((p *ℤ k) +ℤ (a *ℤ y)) *ℤ v) → k *ℤ v ≡ x *ℤ w → o' +ℤ ((p *ℤ ls) +ℤ (a *ℤ rs)) ≡ o +ℤ ((p *ℤ ((x *ℤ w) +ℤ ls)) +ℤ (a *ℤ ((y *ℤ v) +ℤ rs)))
both_sum o o' p a k x y w v ls rs e f =
    let one = mul_add_right v (p *ℤ k) (a *ℤ y) in
    let two = mul_assoc p k v in
    let three = mul_assoc a y v in
    let four = mul_add_left p (x *ℤ w) ls in
    let five = mul_add_left a (y *ℤ v) rs in
    let six : p *ℤ (k *ℤ v) ≡ p *ℤ (x *ℤ w) = ap (λ z. p *ℤ z) f in
    rw (e, one, two, three, four, five, six) (omega (arith, ints))

nothing : (v rs : ℤ) → (pos 0 *ℤ v) +ℤ rs ≡ rs
nothing v rs = rw (zero-*ℤ v) (+ℤ_idl rs)

left_sum : (o o' p a k x w v ls rs : ℤ) → o' ≡ o +ℤ (((p *ℤ k) +ℤ (a *ℤ pos 0)) *ℤ v) → k *ℤ v ≡ x *ℤ w → o' +ℤ ((p *ℤ ls) +ℤ (a *ℤ rs)) ≡ o +ℤ ((p *ℤ ((x *ℤ w) +ℤ ls)) +ℤ (a *ℤ rs))
left_sum o o' p a k x w v ls rs e f =
    both_sum o o' p a k x (pos 0) w v ls rs e f ∙ ap (λ z. o +ℤ ((p *ℤ ((x *ℤ w) +ℤ ls)) +ℤ (a *ℤ z))) (nothing v rs)

right_sum : (o o' p a y v ls rs : ℤ) → o' ≡ o +ℤ (((p *ℤ pos 0) +ℤ (a *ℤ y)) *ℤ v) → o' +ℤ ((p *ℤ ls) +ℤ (a *ℤ rs)) ≡ o +ℤ ((p *ℤ ls) +ℤ (a *ℤ ((y *ℤ v) +ℤ rs)))
right_sum o o' p a y v ls rs e =
    both_sum o o' p a (pos 0) (pos 0) y (pos 0) v ls rs e (zero-*ℤ v ∙ sym (zero-*ℤ (pos 0))) ∙ ap (λ z. o +ℤ ((p *ℤ z) +ℤ (a *ℤ ((y *ℤ v) +ℤ rs)))) (nothing (pos 0) ls)

merge_both : (high : ℕ) (p a : ℤ) (e : ℕ) (xs ys : List (ℕ × ℤ)) (x y : ℕ × ℤ) (ls rs out out' : List (ℕ × ℤ)) (k : ℤ) → x.0 ≡ y.0 → ((v : ℕ → ℤ) → k *ℤ v x.0 ≡ x.1 *ℤ without e v x.0) → ((v : ℕ → ℤ) → weigh out' v ≡ weigh out v +ℤ (((p *ℤ k) +ℤ (a *ℤ y.1)) *ℤ v x.0)) → (AreTerms (2 ^ 127) 0 x.0 out → AreTerms (2 ^ 127) 0 (x.0 + 1) out') → Merging high p a e xs ys (x ∷ ls) (y ∷ rs) out → Merging high p a e xs ys ls rs out'
merge_both high p a e xs ys x y ls rs out out' k same kept more terms m = record {
  low = x.0 + 1;
  done = terms (terms_higher _ 0 m.low x.0 out m.done m.left.0);
  left = m.left.3;
  right = rw same m.right.3;
  weighs = λ v. both_sum (weigh out v) (weigh out' v) p a k x.1 y.1 (without e v x.0) (v y.0) (weigh ls (without e v)) (weigh rs v) (rw (sym same) (more v)) (rw (sym same) (kept v)) ∙ m.weighs v;
}

merge_left : (high : ℕ) (p a : ℤ) (e : ℕ) (xs ys : List (ℕ × ℤ)) (x : ℕ × ℤ) (ls rs out out' : List (ℕ × ℤ)) (k : ℤ) → AreTerms (2 ^ 63) (x.0 + 1) high rs → ((v : ℕ → ℤ) → k *ℤ v x.0 ≡ x.1 *ℤ without e v x.0) → ((v : ℕ → ℤ) → weigh out' v ≡ weigh out v +ℤ (((p *ℤ k) +ℤ (a *ℤ pos 0)) *ℤ v x.0)) → (AreTerms (2 ^ 127) 0 x.0 out → AreTerms (2 ^ 127) 0 (x.0 + 1) out') → Merging high p a e xs ys (x ∷ ls) rs out → Merging high p a e xs ys ls rs out'
merge_left high p a e xs ys x ls rs out out' k later kept more terms m = record {
  low = x.0 + 1;
  done = terms (terms_higher _ 0 m.low x.0 out m.done m.left.0);
  left = m.left.3;
  right = later;
  weighs = λ v. left_sum (weigh out v) (weigh out' v) p a k x.1 (without e v x.0) (v x.0) (weigh ls (without e v)) (weigh rs v) (more v) (kept v) ∙ m.weighs v;
}

merge_right : (high : ℕ) (p a : ℤ) (e : ℕ) (xs ys : List (ℕ × ℤ)) (y : ℕ × ℤ) (ls rs out out' : List (ℕ × ℤ)) → AreTerms (2 ^ 63) (y.0 + 1) high ls → ((v : ℕ → ℤ) → weigh out' v ≡ weigh out v +ℤ (((p *ℤ pos 0) +ℤ (a *ℤ y.1)) *ℤ v y.0)) → (AreTerms (2 ^ 127) 0 y.0 out → AreTerms (2 ^ 127) 0 (y.0 + 1) out') → Merging high p a e xs ys ls (y ∷ rs) out → Merging high p a e xs ys ls rs out'
merge_right high p a e xs ys y ls rs out out' later more terms m = record {
  low = y.0 + 1;
  done = terms (terms_higher _ 0 m.low y.0 out m.done m.right.0);
  left = later;
  right = m.right.3;
  weighs = λ v. right_sum (weigh out v) (weigh out' v) p a y.1 (v y.0) (weigh ls (without e v)) (weigh rs v) (more v) ∙ m.weighs v;
}

-- the same as the code's numbers stand
left_step : (high : ℕ) (p a : ℤ) (e : ℕ) (xs ys ls rs : List (ℕ × ℤ)) (x : ℕ × ℤ) (out out' : List (ℕ × ℤ)) (k : ℤ) → AreTerms (2 ^ 63) (x.0 + 1) high rs → ((v : ℕ → ℤ) → k *ℤ v x.0 ≡ x.1 *ℤ without e v x.0) → unsigned_abs k < 2 ^ 63 → ((v : ℕ → ℤ) → weigh out' v ≡ weigh out v +ℤ (((p *ℤ to_z w64 (of_z w64 k)) +ℤ (a *ℤ pos 0)) *ℤ v x.0)) → (AreTerms (2 ^ 127) 0 x.0 out → AreTerms (2 ^ 127) 0 (x.0 + 1) out') → Merging high p a e xs ys (x ∷ ls) rs out → Merging high p a e xs ys ls rs out'
left_step high p a e xs ys ls rs x out out' k later kept small more terms m =
    merge_left high p a e xs ys x ls rs out out' k later kept
    (subst (λ (z : ℤ). (v : ℕ → ℤ) → weigh out' v ≡ weigh out v +ℤ (((p *ℤ z) +ℤ (a *ℤ pos 0)) *ℤ v x.0)) (read_again k small) more)
    terms m

pub both_left : (high : ℕ) (p a : ℤ) (e : ℕ) (xs ys : List (ℕ × ℤ)) (i j : ℕ) (x y : ℕ × ℤ) (out out' : List (ℕ × ℤ)) (k : ℤ) → i < length xs → j < length ys → x ≡ get_or xs i (0, pos 0) → y ≡ get_or ys j (0, pos 0) → x.0 < y.0 → ((v : ℕ → ℤ) → k *ℤ v x.0 ≡ x.1 *ℤ without e v x.0) → unsigned_abs k < 2 ^ 63 → ((v : ℕ → ℤ) → weigh out' v ≡ weigh out v +ℤ (((p *ℤ to_z w64 (of_z w64 k)) +ℤ (a *ℤ pos 0)) *ℤ v x.0)) → (AreTerms (2 ^ 127) 0 x.0 out → AreTerms (2 ^ 127) 0 (x.0 + 1) out') → Merging high p a e xs ys (drop i xs) (drop j ys) out → Merging high p a e xs ys (drop (i + 1) xs) (drop j ys) out'
both_left high p a e xs ys i j x y out out' k hi hj ex ey below kept small more terms m =
    let n : Merging high p a e xs ys (x ∷ drop (i + 1) xs) (drop j ys) out = subst (λ (ls : List (ℕ × ℤ)). Merging high p a e xs ys ls (drop j ys) out) (unroll xs i x hi ex) m in
    let right : AreTerms (2 ^ 63) n.low high (y ∷ drop (j + 1) ys) = subst (λ (rs : List (ℕ × ℤ)). AreTerms (2 ^ 63) n.low high rs) (unroll ys j y hj ey) n.right in
    let later : AreTerms (2 ^ 63) (x.0 + 1) high (y ∷ drop (j + 1) ys) = (omega (arith, below), right.1, right.2, right.3) in
    left_step high p a e xs ys (drop (i + 1) xs) (drop j ys) x out out' k (subst (λ (rs : List (ℕ × ℤ)). AreTerms (2 ^ 63) (x.0 + 1) high rs) (sym (unroll ys j y hj ey)) later) kept small more terms n

pub alone_left : (high : ℕ) (p a : ℤ) (e : ℕ) (xs ys : List (ℕ × ℤ)) (i j : ℕ) (x : ℕ × ℤ) (out out' : List (ℕ × ℤ)) (k : ℤ) → i < length xs → length ys ≤ j → x ≡ get_or xs i (0, pos 0) → ((v : ℕ → ℤ) → k *ℤ v x.0 ≡ x.1 *ℤ without e v x.0) → unsigned_abs k < 2 ^ 63 → ((v : ℕ → ℤ) → weigh out' v ≡ weigh out v +ℤ (((p *ℤ to_z w64 (of_z w64 k)) +ℤ (a *ℤ pos 0)) *ℤ v x.0)) → (AreTerms (2 ^ 127) 0 x.0 out → AreTerms (2 ^ 127) 0 (x.0 + 1) out') → Merging high p a e xs ys (drop i xs) (drop j ys) out → Merging high p a e xs ys (drop (i + 1) xs) (drop j ys) out'
alone_left high p a e xs ys i j x out out' k hi hj ex kept small more terms m =
    let n : Merging high p a e xs ys (x ∷ drop (i + 1) xs) (drop j ys) out = subst (λ (ls : List (ℕ × ℤ)). Merging high p a e xs ys ls (drop j ys) out) (unroll xs i x hi ex) m in
    let later : AreTerms (2 ^ 63) (x.0 + 1) high [] = terms_order _ (x.0 + 1) high (drop (i + 1) xs) n.left.3 in
    left_step high p a e xs ys (drop (i + 1) xs) (drop j ys) x out out' k (subst (λ (rs : List (ℕ × ℤ)). AreTerms (2 ^ 63) (x.0 + 1) high rs) (sym (past_end ys j hj)) later) kept small more terms n

right_step : (high : ℕ) (p a : ℤ) (e : ℕ) (xs ys ls rs : List (ℕ × ℤ)) (y : ℕ × ℤ) (out out' : List (ℕ × ℤ)) → AreTerms (2 ^ 63) (y.0 + 1) high ls → ((v : ℕ → ℤ) → weigh out' v ≡ weigh out v +ℤ (((p *ℤ pos 0) +ℤ (a *ℤ to_z w64 (of_z w64 y.1))) *ℤ v y.0)) → (AreTerms (2 ^ 127) 0 y.0 out → AreTerms (2 ^ 127) 0 (y.0 + 1) out') → Merging high p a e xs ys ls (y ∷ rs) out → Merging high p a e xs ys ls rs out'
right_step high p a e xs ys ls rs y out out' later more terms m =
    merge_right high p a e xs ys y ls rs out out' later
    (subst (λ (z : ℤ). (v : ℕ → ℤ) → weigh out' v ≡ weigh out v +ℤ (((p *ℤ pos 0) +ℤ (a *ℤ z)) *ℤ v y.0)) (read_again y.1 m.right.2) more)
    terms m

pub both_right : (high : ℕ) (p a : ℤ) (e : ℕ) (xs ys : List (ℕ × ℤ)) (i j : ℕ) (x y : ℕ × ℤ) (out out' : List (ℕ × ℤ)) → i < length xs → j < length ys → x ≡ get_or xs i (0, pos 0) → y ≡ get_or ys j (0, pos 0) → y.0 < x.0 → ((v : ℕ → ℤ) → weigh out' v ≡ weigh out v +ℤ (((p *ℤ pos 0) +ℤ (a *ℤ to_z w64 (of_z w64 y.1))) *ℤ v y.0)) → (AreTerms (2 ^ 127) 0 y.0 out → AreTerms (2 ^ 127) 0 (y.0 + 1) out') → Merging high p a e xs ys (drop i xs) (drop j ys) out → Merging high p a e xs ys (drop i xs) (drop (j + 1) ys) out'
both_right high p a e xs ys i j x y out out' hi hj ex ey below more terms m =
    let n : Merging high p a e xs ys (drop i xs) (y ∷ drop (j + 1) ys) out = subst (λ (rs : List (ℕ × ℤ)). Merging high p a e xs ys (drop i xs) rs out) (unroll ys j y hj ey) m in
    let left : AreTerms (2 ^ 63) n.low high (x ∷ drop (i + 1) xs) = subst (λ (ls : List (ℕ × ℤ)). AreTerms (2 ^ 63) n.low high ls) (unroll xs i x hi ex) n.left in
    let later : AreTerms (2 ^ 63) (y.0 + 1) high (x ∷ drop (i + 1) xs) = (omega (arith, below), left.1, left.2, left.3) in
    right_step high p a e xs ys (drop i xs) (drop (j + 1) ys) y out out' (subst (λ (ls : List (ℕ × ℤ)). AreTerms (2 ^ 63) (y.0 + 1) high ls) (sym (unroll xs i x hi ex)) later) more terms n

pub alone_right : (high : ℕ) (p a : ℤ) (e : ℕ) (xs ys : List (ℕ × ℤ)) (i j : ℕ) (y : ℕ × ℤ) (out out' : List (ℕ × ℤ)) → length xs ≤ i → j < length ys → y ≡ get_or ys j (0, pos 0) → ((v : ℕ → ℤ) → weigh out' v ≡ weigh out v +ℤ (((p *ℤ pos 0) +ℤ (a *ℤ to_z w64 (of_z w64 y.1))) *ℤ v y.0)) → (AreTerms (2 ^ 127) 0 y.0 out → AreTerms (2 ^ 127) 0 (y.0 + 1) out') → Merging high p a e xs ys (drop i xs) (drop j ys) out → Merging high p a e xs ys (drop i xs) (drop (j + 1) ys) out'
alone_right high p a e xs ys i j y out out' hi hj ey more terms m =
    let n : Merging high p a e xs ys (drop i xs) (y ∷ drop (j + 1) ys) out = subst (λ (rs : List (ℕ × ℤ)). Merging high p a e xs ys (drop i xs) rs out) (unroll ys j y hj ey) m in
    let later : AreTerms (2 ^ 63) (y.0 + 1) high [] = terms_order _ (y.0 + 1) high (drop (j + 1) ys) n.right.3 in
    right_step high p a e xs ys (drop i xs) (drop (j + 1) ys) y out out' (subst (λ (ls : List (ℕ × ℤ)). AreTerms (2 ^ 63) (y.0 + 1) high ls) (sym (past_end xs i hi)) later) more terms n

pub both_same : (high : ℕ) (p a : ℤ) (e : ℕ) (xs ys : List (ℕ × ℤ)) (i j : ℕ) (x y : ℕ × ℤ) (out out' : List (ℕ × ℤ)) (k : ℤ) → i < length xs → j < length ys → x ≡ get_or xs i (0, pos 0) → y ≡ get_or ys j (0, pos 0) → x.0 ≡ y.0 → ((v : ℕ → ℤ) → k *ℤ v x.0 ≡ x.1 *ℤ without e v x.0) → unsigned_abs k < 2 ^ 63 → ((v : ℕ → ℤ) → weigh out' v ≡ weigh out v +ℤ (((p *ℤ to_z w64 (of_z w64 k)) +ℤ (a *ℤ to_z w64 (of_z w64 y.1))) *ℤ v x.0)) → (AreTerms (2 ^ 127) 0 x.0 out → AreTerms (2 ^ 127) 0 (x.0 + 1) out') → Merging high p a e xs ys (drop i xs) (drop j ys) out → Merging high p a e xs ys (drop (i + 1) xs) (drop (j + 1) ys) out'
both_same high p a e xs ys i j x y out out' k hi hj ex ey same kept small more terms m =
    let n : Merging high p a e xs ys (x ∷ drop (i + 1) xs) (drop j ys) out = subst (λ (ls : List (ℕ × ℤ)). Merging high p a e xs ys ls (drop j ys) out) (unroll xs i x hi ex) m in
    let b : Merging high p a e xs ys (x ∷ drop (i + 1) xs) (y ∷ drop (j + 1) ys) out = subst (λ (rs : List (ℕ × ℤ)). Merging high p a e xs ys (x ∷ drop (i + 1) xs) rs out) (unroll ys j y hj ey) n in
    let one : (v : ℕ → ℤ) → weigh out' v ≡ weigh out v +ℤ (((p *ℤ k) +ℤ (a *ℤ to_z w64 (of_z w64 y.1))) *ℤ v x.0) = subst (λ (z : ℤ). (v : ℕ → ℤ) → weigh out' v ≡ weigh out v +ℤ (((p *ℤ z) +ℤ (a *ℤ to_z w64 (of_z w64 y.1))) *ℤ v x.0)) (read_again k small) more in
    let two : (v : ℕ → ℤ) → weigh out' v ≡ weigh out v +ℤ (((p *ℤ k) +ℤ (a *ℤ y.1)) *ℤ v x.0) = subst (λ (z : ℤ). (v : ℕ → ℤ) → weigh out' v ≡ weigh out v +ℤ (((p *ℤ k) +ℤ (a *ℤ z)) *ℤ v x.0)) (read_again y.1 b.right.2) one in
    merge_both high p a e xs ys x y (drop (i + 1) xs) (drop (j + 1) ys) out out' k same kept two terms b

-- the end
pub merged_weighs : (high : ℕ) (p a : ℤ) (e : ℕ) (xs ys : List (ℕ × ℤ)) (i j : ℕ) (out : List (ℕ × ℤ)) → unsigned_abs p < 2 ^ 63 → unsigned_abs a < 2 ^ 63 → length xs ≤ i → length ys ≤ j → Merging high (to_z w64 (of_z w64 p)) (to_z w64 (of_z w64 a)) e xs ys (drop i xs) (drop j ys) out → (v : ℕ → ℤ) → weigh out v ≡ (p *ℤ weigh xs (without e v)) +ℤ (a *ℤ weigh ys v)
merged_weighs high p a e xs ys i j out fp fa hi hj m v =
    let all : weigh out v +ℤ ((p *ℤ pos 0) +ℤ (a *ℤ pos 0)) ≡ (p *ℤ weigh xs (without e v)) +ℤ (a *ℤ weigh ys v) = rw (past_end xs i hi, past_end ys j hj, read_again p fp, read_again a fa) at m.weighs v in
    sym (rw (*ℤ-zero p, *ℤ-zero a) (+ℤ_idr (weigh out v))) ∙ all

pub merged_terms : (high : ℕ) (p a : ℤ) (e : ℕ) (xs ys : List (ℕ × ℤ)) (i j : ℕ) (out : List (ℕ × ℤ)) → length ys ≤ j → Merging high p a e xs ys (drop i xs) (drop j ys) out → AreTerms (2 ^ 127) 0 high out
merged_terms high p a e xs ys i j out hj m = terms_higher _ 0 m.low high out m.done (terms_order _ m.low high (drop j ys) m.right)
