use Rattle.std.proofs.Common.{ℤ, ◌+◌, ◌^◌, ◌<◌, ◌≡◌, arith, sym, subst, to_z, of_z}
use Rattle.std.specs.Prelude.{unsigned_abs}
use Rattle.std.proofs.lemmas.Int.{ints}
use mir.Syntax.{w128}
use Rattle.lp_base.proofs.Machine.{again}
use Rattle.dict.specs.Equations.{Equation, equation, IsCommon}
use Rattle.dict.proofs.SparseSums.{term_within}
use Rattle.dict.proofs.Commons.{CommonSoFar, so_far_first, so_far_more, so_far_end, so_far_one, is_gcd_again, equation_again}
use Rattle.dict.proofs.reduce.common.Goals as goal

pub loop-i-init : goal.loop-i-init
loop-i-init c =
    let e : to_z w128 (of_z w128 c.gcd_with-g.result) ≡ c.gcd_with-g.result = again c.gcd_with-g.result c.gcd_with-g.ensures.small in
    subst (λ (g : ℤ). CommonSoFar (equation (to_z w128 (of_z w128 c.args.den)) (to_z w128 (of_z w128 c.args.constant)) c.args.entries.now) c.args.entries.now 0 g) (sym e)
    (so_far_first (to_z w128 (of_z w128 c.args.den)) (to_z w128 (of_z w128 c.args.constant)) c.gcd_with-g.result c.args.entries.now c.gcd_with-g.ensures.positive c.gcd_with-g.ensures.small c.gcd_with-g.ensures.divisor)

pub gcd_with-g-requires-in-loop-i-clause-number : goal.gcd_with-g-requires-in-loop-i-clause-number
gcd_with-g-requires-in-loop-i-clause-number c =
    let small = (term_within (2 ^ 127) 0 c.args.places c.args.entries.now c.loop-i.i c.wide_term_at.result c.loop-i-test.true c.wide_term_at.ensures c.requires.row.entries).2 in
    subst (λ (z : ℤ). unsigned_abs z < 2 ^ 127) (sym (again c.wide_term_at.result.1 small)) small

pub loop-i-preserved : goal.loop-i-preserved
loop-i-preserved c =
    let small = (term_within (2 ^ 127) 0 c.args.places c.args.entries.now c.loop-i.i c.wide_term_at.result c.loop-i-test.true c.wide_term_at.ensures c.requires.row.entries).2 in
    let e : to_z w128 (of_z w128 c.gcd_with-g-in-loop-i.result) ≡ c.gcd_with-g-in-loop-i.result = again c.gcd_with-g-in-loop-i.result c.gcd_with-g-in-loop-i.ensures.small in
    subst (λ (g : ℤ). CommonSoFar (equation (to_z w128 (of_z w128 c.args.den)) (to_z w128 (of_z w128 c.args.constant)) c.args.entries.now) c.args.entries.now (c.loop-i.i + 1) g) (sym e)
    (so_far_more _ c.args.entries.now c.loop-i.i _ c.gcd_with-g-in-loop-i.result c.wide_term_at.result c.loop-i-test.true c.wide_term_at.ensures c.gcd_with-g-in-loop-i.ensures.positive c.gcd_with-g-in-loop-i.ensures.small (is_gcd_again (unsigned_abs (to_z w128 c.loop-i.g-bits)) (unsigned_abs c.gcd_with-g-in-loop-i.result) c.wide_term_at.result.1 small c.gcd_with-g-in-loop-i.ensures.divisor) c.loop-i.invariant)

pub returns-else-g-ne1-clause-common : goal.returns-else-g-ne1-clause-common
returns-else-g-ne1-clause-common c =
    subst (λ (q : Equation). IsCommon (unsigned_abs (to_z w128 c.loop-i.g-bits)) q) (equation_again c.args.den c.args.constant c.args.entries.now c.ranges.den c.ranges.constant)
    (so_far_one _ c.args.entries.now c.loop-i.i _ (omega (arith, ints, c.if-g-ne1.false)) c.loop-i.invariant)

pub returns-after-loop-i-clause-common : goal.returns-after-loop-i-clause-common
returns-after-loop-i-clause-common c =
    subst (λ (q : Equation). IsCommon (unsigned_abs (to_z w128 c.loop-i.g-bits)) q) (equation_again c.args.den c.args.constant c.args.entries.now c.ranges.den c.ranges.constant)
    (so_far_end _ c.args.entries.now c.loop-i.i _ (omega (arith, c.loop-i-test.false)) c.loop-i.invariant)
