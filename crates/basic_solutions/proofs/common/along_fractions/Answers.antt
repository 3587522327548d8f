use Rattle.std.proofs.Common.{◌<◌, length}
use Rattle.basic_solutions.specs.Readings.{den_in, size_in}
use Rattle.basic_solutions.proofs.CommonLaws.{along_made, along_number, along_too_large, fractions_are, greatest_positive, none_map, some_map}
use Rattle.dict.proofs.Exchanges.{ok_map}
use Rattle.basic_solutions.proofs.common.along_fractions.Goals as goal

pub numbers_over-requires-clause-some : goal.numbers_over-requires-clause-some
numbers_over-requires-clause-some c = greatest_positive (length c.args.values.now) c.common_numerator.result (size_in c.args.values.now) c.requires.goes c.common_numerator.ensures

pub returns-in-None-clause-none : goal.returns-in-None-clause-none
returns-in-None-clause-none c =
    along_too_large (length c.args.values.now) (size_in c.args.values.now) (den_in c.args.values.now) (fractions_are c.args.values.now c.requires.narrow) (λ i lt. (c.requires.narrow i lt).2) c.in-None.ensures.none

pub returns-in-Some-clause-some : goal.returns-in-Some-clause-some
returns-in-Some-clause-some c =
    let g : 0 < c.common_numerator.result = greatest_positive (length c.args.values.now) c.common_numerator.result (size_in c.args.values.now) c.requires.goes c.common_numerator.ensures in
    ok_map c.numbers_over.result (λ found. some_map found (λ xs. along_made c.args.values.now c.in-Some.d c.common_numerator.result xs.items c.requires.narrow c.in-Some.ensures.least c.common_numerator.ensures g)) c.numbers_over.ensures.numbers

pub returns-in-Some-clause-none : goal.returns-in-Some-clause-none
returns-in-Some-clause-none c =
    let g : 0 < c.common_numerator.result = greatest_positive (length c.args.values.now) c.common_numerator.result (size_in c.args.values.now) c.requires.goes c.common_numerator.ensures in
    ok_map c.numbers_over.result (λ found. none_map found (λ wide. along_number (length c.args.values.now) c.in-Some.d c.common_numerator.result wide.0 (size_in c.args.values.now) (den_in c.args.values.now) (fractions_are c.args.values.now c.requires.narrow) c.in-Some.ensures.least c.common_numerator.ensures g wide.1 wide.2)) c.numbers_over.ensures.wide
