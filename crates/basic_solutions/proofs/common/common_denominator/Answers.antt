use Rattle.std.proofs.Common.{ℕ, subst, arith}
use Rattle.basic_solutions.specs.Commons.{IsLcm}
use Rattle.basic_solutions.specs.Readings.{den_in}
use Rattle.basic_solutions.proofs.Coprimes.{least_none, least_more}
use Rattle.basic_solutions.proofs.common.common_denominator.Goals as goal

pub loop-i-init : goal.loop-i-init
loop-i-init c = record { least = least_none (den_in c.args.values.now); small = omega arith }

pub returns-in-None-clause-none : goal.returns-in-None-clause-none
returns-in-None-clause-none c =
    let i = c.loop-i.i in
    let q = den_in c.args.values.now in
    let found = c.in-None.ensures.none in
    let lcm : IsLcm c.loop-i.d (q i) found.0 = subst (λ (n : ℕ). IsLcm c.loop-i.d n found.0) c.den_at.ensures found.1 in
    record {
      k = i;
      within = omega (arith, c.loop-i-test.true);
      before = c.loop-i.d;
      least_before = c.loop-i.invariant.least;
      small = c.loop-i.invariant.small;
      l = found.0;
      least = least_more i q c.loop-i.d found.0 c.loop-i.invariant.least lcm (omega (arith, found.2));
      large = found.2;
    }

pub loop-i-preserved : goal.loop-i-preserved
loop-i-preserved c =
    let i = c.loop-i.i in
    let q = den_in c.args.values.now in
    let lcm : IsLcm c.loop-i.d (q i) c.in-Some.more = subst (λ (n : ℕ). IsLcm c.loop-i.d n c.in-Some.more) c.den_at.ensures c.in-Some.ensures.lcm in
    record {
      least = least_more i q c.loop-i.d c.in-Some.more c.loop-i.invariant.least lcm c.in-Some.ensures.positive;
      small = c.in-Some.ensures.small;
    }
