use Rattle.std.proofs.Common.{◌<◌, ◌≡◌, ◌^◌, arith, length, pos, to_z}
use mir.Syntax.{w64}
use Rattle.std.proofs.lemmas.Int.{ints}
use Rattle.basic_solutions.specs.Readings.{den_in, size_in}
use Rattle.basic_solutions.proofs.CommonLaws.{fractions_are, over_made, wide_denominator, wide_number_over, wide_too_large}
use Rattle.basic_solutions.proofs.common.over_common_denominator.Goals as goal

pub returns-in-None-clause-none : goal.returns-in-None-clause-none
returns-in-None-clause-none c =
    wide_too_large (length c.args.values.now) (size_in c.args.values.now) (den_in c.args.values.now) (fractions_are c.args.values.now c.requires) c.in-None.ensures.none

pub returns-then-d-gt-LARGEST_NARROW-clause-none : goal.returns-then-d-gt-LARGEST_NARROW-clause-none
returns-then-d-gt-LARGEST_NARROW-clause-none c =
    wide_denominator (length c.args.values.now) c.in-Some.d (size_in c.args.values.now) (den_in c.args.values.now) (fractions_are c.args.values.now c.requires) c.in-Some.ensures.least (omega (arith, c.if-d-gt-LARGEST_NARROW.true))

pub returns-in-Some-2-clause-some : goal.returns-in-Some-2-clause-some
returns-in-Some-2-clause-some c =
    let small : c.in-Some.d < 2 ^ 63 = omega (arith, c.if-d-gt-LARGEST_NARROW.false) in
    let read : to_z w64 c.in-Some.d ≡ pos c.in-Some.d = omega (arith, ints, small) in
    over_made c.args.values.now c.in-Some.d (to_z w64 c.in-Some.d) c.in-Some-2.numbers.items c.requires c.in-Some.ensures.least small read (rw c.in-Some-2.is at c.in_ok-numbers.ensures.numbers)

pub returns-in-None-2-clause-none : goal.returns-in-None-2-clause-none
returns-in-None-2-clause-none c =
    let wide = rw c.in-None-2.is at c.in_ok-numbers.ensures.wide in
    wide_number_over (length c.args.values.now) c.in-Some.d wide.0 (size_in c.args.values.now) (den_in c.args.values.now) (fractions_are c.args.values.now c.requires) c.in-Some.ensures.least wide.1 wide.2
