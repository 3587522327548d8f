use Rattle.cert2_check.proofs.Merging.{nothing_left, next_from_own}
use Rattle.cert2_check.proofs.merge.next_own.Goals as goal

pub returns-in_default : goal.returns-in_default
returns-in_default c = nothing_left c.args.list.now c.args.own.now c.requires.none c.in_default.ensures.cases

pub returns : goal.returns
returns c = next_from_own c.args.list.now c.args.own.now c.in-Some.term.now c.in-Some.rest.now c.requires.none c.in-Some.ensures.cases.0 c.requires.own_ascends
