use Rattle.deck_case.proofs.Multiples.{push_result}
use Rattle.deck_case.proofs.numbers.with_number.Goals as goal

pub returns : goal.returns
returns c = λ fs positive same.
    push_result fs c.args.number c.args.known c.den_of.result c.common.result c.den_of.ensures.value c.den_of.ensures.lowest.positive c.requires.positive c.common.ensures positive same
