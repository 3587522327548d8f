use Rattle.std.proofs.Common.{◌≡◌, ◌∙◌, ◌++◌, ◌∷◌, [], sym, ap, subst, arith, ℤ, to_z, of_z}
use Prim.Native.Nat.{◌∣◌}
use Rattle.std.specs.Prelude.{unsigned_abs}
use mir.Syntax.{w64}
use Rattle.lp_base.proofs.Machine.{narrow_again}
use Rattle.lp_nums.specs.Fractions.{Fraction}
use Rattle.basic_solutions.proofs.CommonLaws.{numbers_more}
use Rattle.basic_solutions.proofs.common.numbers_over.Goals as goal

pub number_over-requires-clause-divides : goal.number_over-requires-clause-divides
number_over-requires-clause-divides c =
    subst (λ (f : Fraction). c.args.g ∣ unsigned_abs f.num) (sym c.value_at.ensures) (c.requires.divides c.loop-i.i (omega (arith, c.loop-i-test.true)))

pub number_over-requires-clause-multiple : goal.number_over-requires-clause-multiple
number_over-requires-clause-multiple c =
    subst (λ (f : Fraction). unsigned_abs f.den ∣ c.args.d) (sym c.value_at.ensures) (c.requires.multiple c.loop-i.i (omega (arith, c.loop-i-test.true)))

pub loop-i-preserved : goal.loop-i-preserved
loop-i-preserved c =
    let x = c.in-Some.number in
    let e : to_z w64 (of_z w64 x) ≡ x = narrow_again x c.in-Some.ensures.narrow in
    numbers_more c.args.values.now c.args.g c.args.d c.loop-i.i x c.value_at.result c.loop-i.numbers.items c.put_number.new.numbers.items c.value_at.ensures (c.in_ok-put_number-in-Some.ensures ∙ ap (λ (z : ℤ). c.loop-i.numbers.items ++ z ∷ []) e) c.in-Some.ensures.narrow c.in-Some.ensures.value c.loop-i.invariant
