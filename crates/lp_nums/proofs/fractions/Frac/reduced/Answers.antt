use Rattle.lp_nums.proofs.FractionLaws.{positive_divisor, divides_read, reduced_read}
use Rattle.lp_nums.proofs.fractions.Frac.reduced.Goals as goal

pub quotient-requires-clause-positive : goal.quotient-requires-clause-positive
quotient-requires-clause-positive c =
    let g = c.gcd-common in
    positive_divisor c.args.num c.args.den g.result c.ranges.num c.ranges.den (record { sfits = g.type_inv }) c.requires.positive g.ensures.not_negative g.ensures.divisor

pub quotient-requires-clause-divides : goal.quotient-requires-clause-divides
quotient-requires-clause-divides c =
    let g = c.gcd-common in
    divides_read c.args.num g.result (record { sfits = g.type_inv }) g.ensures.divisor.0

pub quotient-requires-2-clause-positive : goal.quotient-requires-2-clause-positive
quotient-requires-2-clause-positive c =
    let g = c.gcd-common in
    positive_divisor c.args.num c.args.den g.result c.ranges.num c.ranges.den (record { sfits = g.type_inv }) c.requires.positive g.ensures.not_negative g.ensures.divisor

pub quotient-requires-2-clause-divides : goal.quotient-requires-2-clause-divides
quotient-requires-2-clause-divides c =
    let g = c.gcd-common in
    divides_read c.args.den g.result (record { sfits = g.type_inv }) g.ensures.divisor.1

pub invariant_of-result : goal.invariant_of-result
invariant_of-result c =
    let g = c.gcd-common in
    (reduced_read c.args.num c.args.den c.quotient.result c.quotient-2.result g.result c.ranges.num c.ranges.den (record {
      sfits = c.quotient.type_inv;
    }) (record { sfits = c.quotient-2.type_inv }) (record { sfits = g.type_inv }) c.requires.positive g.ensures.not_negative g.ensures.divisor c.quotient.ensures.value c.quotient-2.ensures.value).0

pub returns-clause-value : goal.returns-clause-value
returns-clause-value c =
    let g = c.gcd-common in
    (reduced_read c.args.num c.args.den c.quotient.result c.quotient-2.result g.result c.ranges.num c.ranges.den (record {
      sfits = c.quotient.type_inv;
    }) (record { sfits = c.quotient-2.type_inv }) (record { sfits = g.type_inv }) c.requires.positive g.ensures.not_negative g.ensures.divisor c.quotient.ensures.value c.quotient-2.ensures.value).1

pub returns-clause-lowest : goal.returns-clause-lowest
returns-clause-lowest c = invariant_of-result c
