use Rattle.std.proofs.Common.{◌<◌, ◌^◌, rules}
use Rattle.cert_parts.proofs.LineLaws.{line_result, number_inside, step_low, step_named, step_within}
use Rattle.cert_parts.proofs.lines.line_of_place.Goals as goal

pub number_at-number-requires : goal.number_at-number-requires
number_at-number-requires c = number_inside c.args.case.now c.args.known.now c.args.log.now c.args.places.now c.args.trimmed.now c.args.numbers.now c.args.at c.requires.ready c.requires.within

pub line_of_step-requires-clause-within : goal.line_of_step-requires-clause-within
line_of_step-requires-clause-within c = step_within c.args.case.now c.args.known.now c.args.log.now c.args.places.now c.args.trimmed.now c.args.numbers.now c.args.at c.steps.result.now c.index-steps-at.result c.number_at-number.result c.requires.ready c.requires.within c.steps.ensures.list c.index-steps-at.is c.number_at-number.ensures

pub line_of_step-requires-clause-named : goal.line_of_step-requires-clause-named
line_of_step-requires-clause-named c = step_named c.args.case.now c.args.known.now c.args.log.now c.args.places.now c.args.trimmed.now c.args.numbers.now c.args.at c.steps.result.now c.index-steps-at.result c.requires.ready c.requires.within c.steps.ensures.list c.index-steps-at.is

pub line_of_step-requires-clause-low : goal.line_of_step-requires-clause-low
line_of_step-requires-clause-low c =
    let fits : c.args.at < 2 ^ 64 = search rules in
    step_low c.args.case.now c.args.known.now c.args.log.now c.args.places.now c.args.trimmed.now c.args.numbers.now c.args.at c.steps.result.now c.index-steps-at.result c.requires.ready c.requires.within fits c.steps.ensures.list c.index-steps-at.is

pub returns-clause-line : goal.returns-clause-line
returns-clause-line c = line_result c.line_of_step.result c.args.case.now c.args.known.now c.args.log.now c.args.places.now c.args.trimmed.now c.args.numbers.now c.args.at c.steps.result.now c.index-steps-at.result c.number_at-number.result c.requires.ready c.requires.within c.steps.ensures.list c.index-steps-at.is c.number_at-number.ensures c.line_of_step.ensures.line
