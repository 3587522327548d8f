use Rattle.std.proofs.Common.{ℕ, ◌%◌, ◌≡◌, sym, ap, subst, ◌∙◌, arith}
use Rattle.std.specs.Int.{IsGcd, trailing_zeros, w64}
use Rattle.std.proofs.lemmas.Nat.Gcd.{IsGcd-from_sub}
use Rattle.lp_nums.proofs.GcdLaws.{IsGcd-shift_first, IsGcd-from_lower, IsGcd-of_same}
use Rattle.lp_nums.proofs.divisors.gcd_of_odd.Goals as goal
use Rattle.lp_nums.proofs.divisors.gcd_of_odd.Goals.{then-x-y, else-x-y}

pub loop-x-preserved : goal.loop-x-preserved
loop-x-preserved c =
    let x = c.loop-x.x in
    let y = c.loop-x.y in
    let low = c.if-x-y.low.0 in
    let rest = c.if-x-y.low.1 in
    let odd : low % 2 ≡ 1 = elim c.if-x-y.branch [
      | then-x-y w ↦ ap (λ p. p.0 % 2) w.low-is ∙ c.loop-x.invariant.first
      | else-x-y w ↦ ap (λ p. p.0 % 2) w.low-is ∙ c.loop-x.invariant.second
    ] in
    let step : (g : ℕ) → IsGcd rest low g → IsGcd x y g = elim c.if-x-y.branch [
      | then-x-y w ↦ λ g h. IsGcd-from_lower x y g (omega arith) (subst (λ p. IsGcd p.1 p.0 g) w.low-is h)
      | else-x-y w ↦ λ g h. IsGcd-from_sub x y g (omega arith) (subst (λ p. IsGcd p.1 p.0 g) w.low-is h)
    ] in
    record {
      first = c.odd_part-x.ensures.odd;
      second = odd;
      same = λ g h. c.loop-x.invariant.same g (step g (subst (λ n. IsGcd n low g) (sym c.odd_part-x.ensures.value) (IsGcd-shift_first (trailing_zeros w64 rest) c.odd_part-x.result low g odd h)));
    }

pub returns : goal.returns
returns c = c.loop-x.invariant.same c.loop-x.x (IsGcd-of_same c.loop-x.x c.loop-x.y c.loop-x-test.false)
