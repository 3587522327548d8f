-- The identity of a row after an exchange.
use Rattle.std.proofs.Common.{ℕ, ◌*◌, ◌≤◌, ◌^◌, ◌≡◌, ◌∙◌, sym, ap, arith, ℤ, pos, negsuc, ◌+ℤ◌, ◌*ℤ◌, ◌<ℤ◌, List, Ok, Err, Result, IfOk, IfErr, OnOk}
use Rattle.std.proofs.Math.Nat.{mul-le-mul}
use Rattle.std.proofs.lemmas.Int.{ints}
use Rattle.std.proofs.Math.IntN.{zero-*ℤ, +ℤ_idl}
use Rattle.lp_base.proofs.Ring.{mul_add_right, mul_add_left, mul_assoc, mul_comm}
use Rattle.lpcc_case.specs.Points.{coefficient}
use Rattle.dict.specs.Terms.{weigh, without}
use Rattle.dict.specs.Equations.{Equation, equation, IsReducedOf, IsRow}
use Rattle.dict.specs.Exchanges.{Carries, IsNext, IsWideAt, IsWideNext}
use Rattle.dict.proofs.SparseSums.{weigh_split, weigh_same}
use Rattle.dict.proofs.Reduces.{holds_reduced}

-- the numbers of the combination make a row of the same form
pub carried : (e : ℕ) (row entering : Equation) (out : List (ℕ × ℤ)) → ((v : ℕ → ℤ) → weigh out v ≡ (entering.den *ℤ weigh row.entries (without e v)) +ℤ (coefficient row.entries e *ℤ weigh entering.entries v)) → Carries e row entering (equation (entering.den *ℤ row.den) ((entering.den *ℤ row.constant) +ℤ (coefficient row.entries e *ℤ entering.constant)) out)
carried e row entering out weighs f one v w same here enter =
    let p = entering.den in
    let a = coefficient row.entries e in
    let rest = weigh row.entries (without e w) in
    let rest_is : weigh row.entries (without e v) ≡ rest = weigh_same row.entries (without e v) (without e w) same in
    let split : row.den *ℤ f ≡ ((a *ℤ v e) +ℤ rest) +ℤ (row.constant *ℤ one) = here ∙ ap (λ z. z +ℤ (row.constant *ℤ one)) (weigh_split row.entries e v ∙ ap (λ z. (a *ℤ v e) +ℤ z) rest_is) in
    let two : p *ℤ (((a *ℤ v e) +ℤ rest) +ℤ (row.constant *ℤ one)) ≡ ((p *ℤ (a *ℤ v e)) +ℤ (p *ℤ rest)) +ℤ (p *ℤ (row.constant *ℤ one)) = mul_add_left p ((a *ℤ v e) +ℤ rest) (row.constant *ℤ one) ∙ ap (λ z. z +ℤ (p *ℤ (row.constant *ℤ one))) (mul_add_left p (a *ℤ v e) rest) in
    let three : p *ℤ (a *ℤ v e) ≡ a *ℤ (p *ℤ v e) = sym (mul_assoc p a (v e)) ∙ ap (λ z. z *ℤ v e) (mul_comm p a) ∙ mul_assoc a p (v e) in
    let four : a *ℤ (p *ℤ v e) ≡ (a *ℤ weigh entering.entries w) +ℤ (a *ℤ (entering.constant *ℤ one)) = ap (λ z. a *ℤ z) enter ∙ mul_add_left a (weigh entering.entries w) (entering.constant *ℤ one) in
    let five : ((p *ℤ row.constant) +ℤ (a *ℤ entering.constant)) *ℤ one ≡ (p *ℤ (row.constant *ℤ one)) +ℤ (a *ℤ (entering.constant *ℤ one)) = mul_add_right one (p *ℤ row.constant) (a *ℤ entering.constant) ∙ ap (λ z. z +ℤ ((a *ℤ entering.constant) *ℤ one)) (mul_assoc p row.constant one) ∙ ap (λ z. (p *ℤ (row.constant *ℤ one)) +ℤ z) (mul_assoc a entering.constant one) in
    let left : (p *ℤ row.den) *ℤ f ≡ (((a *ℤ weigh entering.entries w) +ℤ (a *ℤ (entering.constant *ℤ one))) +ℤ (p *ℤ rest)) +ℤ (p *ℤ (row.constant *ℤ one)) = mul_assoc p row.den f ∙ ap (λ z. p *ℤ z) split ∙ two ∙ ap (λ z. (z +ℤ (p *ℤ rest)) +ℤ (p *ℤ (row.constant *ℤ one))) (three ∙ four) in
    left ∙ omega (arith, ints, weighs w, five)

pub positive : (a b : ℤ) → pos 0 <ℤ a → pos 0 <ℤ b → pos 0 <ℤ (a *ℤ b)
positive (pos m) (pos n) h k =
    let hm : 1 ≤ m = omega (arith, ints) in
    let hn : 1 ≤ n = omega (arith, ints) in
    let l : 1 * 1 ≤ m * n = mul-le-mul hm hn in
    omega (arith, ints, l)
positive (negsuc m) b h k = absurd (omega (arith, ints))
positive (pos m) (negsuc n) h k = absurd (omega (arith, ints))

-- facts of a result's value
pub ok_map : {T E : Type 0} {P Q : T → Type 0} → (r : Result T E) → ((x : T) → P x → Q x) → IfOk r P → IfOk r Q
ok_map (Ok x) f h = f x h
ok_map (Err x) f h = h

pub err_map : {T E : Type 0} {P Q : E → Type 0} → (r : Result T E) → ((x : E) → P x → Q x) → IfErr r P → IfErr r Q
err_map (Ok x) f h = h
err_map (Err x) f h = f x h

pub on_ok_map : {T E : Type 0} {P Q : Type 0} → (r : Result T E) → (P → Q) → OnOk r P → OnOk r Q
on_ok_map (Ok x) f h = f h
on_ok_map (Err x) f h = h

pub ok_join : {T E : Type 0} {P Q R : T → Type 0} → (r : Result T E) → ((x : T) → P x → Q x → R x) → IfOk r P → IfOk r Q → IfOk r R
ok_join (Ok x) f h k = f x h k
ok_join (Err x) f h k = h

-- the raw row, reduced
pub next_of : (places e : ℕ) (row entering raw made : Equation) → Carries e row entering raw → IsRow (2 ^ 63) places made → IsReducedOf raw made → IsNext places e row entering made
next_of places e row entering raw made carries is of = record {
  row = is;
  reduced = of.reduced;
  carries = λ f one v w same here enter. holds_reduced raw made f one w of (carries f one v w same here enter);
}

pub wide_of : (places e at : ℕ) (row entering raw : Equation) → Carries e row entering raw → IsWideAt places at raw → IsWideNext places e at row entering
wide_of places e at row entering raw carries wide = record {
  made = wide.made;
  row = wide.row;
  reduced = wide.of.reduced;
  carries = λ f one v w same here enter. holds_reduced raw wide.made f one w wide.of (carries f one v w same here enter);
  wide = wide.wide;
}

-- a row with nothing at e stays
pub stays : (e : ℕ) (row entering : Equation) → coefficient row.entries e ≡ pos 0 → Carries e row entering row
stays e row entering none f one v w same here enter =
    let nothing : (u : ℕ → ℤ) → weigh row.entries u ≡ weigh row.entries (without e u) = λ u. weigh_split row.entries e u ∙ ap (λ z. (z *ℤ u e) +ℤ weigh row.entries (without e u)) none ∙ ap (λ z. z +ℤ weigh row.entries (without e u)) (zero-*ℤ (u e)) ∙ +ℤ_idl (weigh row.entries (without e u)) in
    here ∙ ap (λ z. z +ℤ (row.constant *ℤ one)) (nothing v ∙ weigh_same row.entries (without e v) (without e w) same ∙ sym (nothing w))
