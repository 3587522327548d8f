use Rattle.desk_part.proofs.SearchLaws.{land_open}
use Rattle.desk_part.proofs.SettleLaws.{best_positive, cut_bars}
use Rattle.desk_part.specs.contracts.desk_part.DeskPart.{the_view}
use Rattle.desk_part.proofs.desk_part.DeskPart.settle.Goals as goal

pub take_outcome-requires-clause-old : goal.take_outcome-requires-clause-old
take_outcome-requires-clause-old c = best_positive c.args.case.now c.args.options.now c.args.self.now c.requires.carried

pub take_outcome-requires-clause-bars : goal.take_outcome-requires-clause-bars
take_outcome-requires-clause-bars c = cut_bars c.args.case.now c.args.ticket c.args.outcome (c.requires.may.may (c.has_verdict.ensures.none c.if-has_verdict.false))

pub invariant_of-self-else-ends : goal.invariant_of-self-else-ends
invariant_of-self-else-ends c = land_open c.args.case.now (the_view c.self-2.inside) c.args.self.now c.take_outcome.new.self c.args.ticket c.args.outcome c.self-2.inside.blocked c.self-2.inside.kept c.land-2.new.flight.items c.self-2.view_is c.in_default.ensures.ok c.requires.may.flying (c.requires.may.may (c.has_verdict.ensures.none c.if-has_verdict.false)) c.land-2.ensures c.self-2.invariant
