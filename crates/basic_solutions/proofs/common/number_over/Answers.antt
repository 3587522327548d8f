use Rattle.std.proofs.Common.{ℕ, ◌*◌, ◌/◌, ◌≤◌, ◌≡◌, ◌∙◌, ◌^◌, refl, ap, subst, arith, ℤ, pos, ◌*ℤ◌, ◌-ℤ◌, ◌<ℤ◌, ◌≤ℤ◌, neg_ℤ, to_z, of_z, rules, FitsSigned}
use Rattle.std.specs.Prelude.{unsigned_abs}
use mir.Syntax.{w64, w128}
use Rattle.std.proofs.lemmas.Int.{ints, to_z-of_z}
use Rattle.dict.proofs.Machine.{is_pos}
use Rattle.basic_solutions.proofs.Machine.{number_above, number_below, number_again, negated_again, size_read, sizes_over, wide_over}
use Rattle.basic_solutions.proofs.common.number_over.Goals as goal

pub returns-in_err-size-clause-wide : goal.returns-in_err-size-clause-wide
returns-in_err-size-clause-wide c =
    let p = unsigned_abs c.args.value.num in
    let q = unsigned_abs c.args.value.den in
    let fp : FitsSigned w128 c.num.result = search rules in
    let fq : FitsSigned w128 c.den.result = search rules in
    let ep : c.unsigned_abs.result ≡ p = size_read c.unsigned_abs.result c.num.result c.args.value.num fp c.unsigned_abs.ensures.value c.num.ensures.value in
    let eq : c.unsigned_abs-2.result ≡ q = size_read c.unsigned_abs-2.result c.den.result c.args.value.den fq c.unsigned_abs-2.ensures.value c.den.ensures.value in
    let large : 2 ^ 63 ≤ c.unsigned_abs.result / c.args.g * (c.args.d / c.unsigned_abs-2.result) = c.in_err-size.ensures.wide in
    let read : 2 ^ 63 ≤ p / c.args.g * (c.args.d / q) = subst (λ (m : ℕ). 2 ^ 63 ≤ m / c.args.g * (c.args.d / q)) ep (subst (λ (n : ℕ). 2 ^ 63 ≤ c.unsigned_abs.result / c.args.g * (c.args.d / n)) eq large) in
    rw c.from_residual.ensures (wide_over p q c.args.g c.args.d c.requires.divides c.requires.multiple read)

pub returns-then-num-lt0-clause-value : goal.returns-then-num-lt0-clause-value
returns-then-num-lt0-clause-value c =
    let p = unsigned_abs c.args.value.num in
    let q = unsigned_abs c.args.value.den in
    let fp : FitsSigned w128 c.num.result = search rules in
    let fq : FitsSigned w128 c.den.result = search rules in
    let fn : FitsSigned w128 c.num-2.result = search rules in
    let ep : c.unsigned_abs.result ≡ p = size_read c.unsigned_abs.result c.num.result c.args.value.num fp c.unsigned_abs.ensures.value c.num.ensures.value in
    let eq : c.unsigned_abs-2.result ≡ q = size_read c.unsigned_abs-2.result c.den.result c.args.value.den fq c.unsigned_abs-2.ensures.value c.den.ensures.value in
    let s = p / c.args.g * (c.args.d / q) in
    let den : c.args.value.den ≡ pos q = is_pos c.args.value.den (omega (arith, ints, c.den.ensures.lowest.positive)) in
    let is : c.in_ok-size.size ≡ pos s = c.in_ok-size.ensures.value ∙ ap (λ (m : ℕ). pos (m / c.args.g * (c.args.d / c.unsigned_abs-2.result))) ep ∙ ap (λ (n : ℕ). pos (p / c.args.g * (c.args.d / n))) eq in
    let below : c.args.value.num <ℤ pos 0 = omega (arith, ints, c.if-num-lt0.true, to_z-of_z w128 c.num-2.result fn, c.num-2.ensures.value) in
    ap (λ (z : ℤ). (to_z w64 (of_z w64 (pos 0 -ℤ to_z w64 (of_z w64 c.in_ok-size.size))) *ℤ pos c.args.g) *ℤ z) den ∙ ap (λ (z : ℤ). (z *ℤ pos c.args.g) *ℤ pos q) (negated_again c.in_ok-size.size (pos s) (neg_ℤ (pos s)) c.in_ok-size.ensures.narrow is refl) ∙ number_below c.args.value.num s c.args.g q c.args.d below (sizes_over p q c.args.g c.args.d c.requires.divides c.requires.multiple)

pub returns-else-num-lt0-clause-value : goal.returns-else-num-lt0-clause-value
returns-else-num-lt0-clause-value c =
    let p = unsigned_abs c.args.value.num in
    let q = unsigned_abs c.args.value.den in
    let fp : FitsSigned w128 c.num.result = search rules in
    let fq : FitsSigned w128 c.den.result = search rules in
    let fn : FitsSigned w128 c.num-2.result = search rules in
    let ep : c.unsigned_abs.result ≡ p = size_read c.unsigned_abs.result c.num.result c.args.value.num fp c.unsigned_abs.ensures.value c.num.ensures.value in
    let eq : c.unsigned_abs-2.result ≡ q = size_read c.unsigned_abs-2.result c.den.result c.args.value.den fq c.unsigned_abs-2.ensures.value c.den.ensures.value in
    let s = p / c.args.g * (c.args.d / q) in
    let den : c.args.value.den ≡ pos q = is_pos c.args.value.den (omega (arith, ints, c.den.ensures.lowest.positive)) in
    let is : c.in_ok-size.size ≡ pos s = c.in_ok-size.ensures.value ∙ ap (λ (m : ℕ). pos (m / c.args.g * (c.args.d / c.unsigned_abs-2.result))) ep ∙ ap (λ (n : ℕ). pos (p / c.args.g * (c.args.d / n))) eq in
    let above : pos 0 ≤ℤ c.args.value.num = omega (arith, ints, c.if-num-lt0.false, to_z-of_z w128 c.num-2.result fn, c.num-2.ensures.value) in
    ap (λ (z : ℤ). (to_z w64 (of_z w64 c.in_ok-size.size) *ℤ pos c.args.g) *ℤ z) den ∙ ap (λ (z : ℤ). (z *ℤ pos c.args.g) *ℤ pos q) (number_again c.in_ok-size.size (pos s) c.in_ok-size.ensures.narrow is) ∙ number_above c.args.value.num s c.args.g q c.args.d above (sizes_over p q c.args.g c.args.d c.requires.divides c.requires.multiple)
