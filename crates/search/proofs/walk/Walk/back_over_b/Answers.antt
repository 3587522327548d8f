use Rattle.std.proofs.Common.{◌∙◌, refl}
use Rattle.derivation.specs.Logs.{no_goods}
use Rattle.search.proofs.Steps.{over_first, over_second, over_goes}
use Rattle.search.proofs.walk.Walk.back_over_b.Goals as goal

pub close_resolved-requires-clause-short : goal.close_resolved-requires-clause-short
close_resolved-requires-clause-short c =
    (over_first c.args.fresh c.args.pairs (no_goods c.args.log.now) c.args.blocked.now c.args.self.now.sides.items c.as_slice.result.now c.args.self.now.reasons.items c.args.at c.index-first.result.now c.requires.kept c.requires.last c.requires.here (c.as_slice.ensures.value ∙ c.cut.ensures.sides) c.index-first.ensures).0

pub close_resolved-requires-clause-first : goal.close_resolved-requires-clause-first
close_resolved-requires-clause-first c =
    (over_first c.args.fresh c.args.pairs (no_goods c.args.log.now) c.args.blocked.now c.args.self.now.sides.items c.as_slice.result.now c.args.self.now.reasons.items c.args.at c.index-first.result.now c.requires.kept c.requires.last c.requires.here (c.as_slice.ensures.value ∙ c.cut.ensures.sides) c.index-first.ensures).1

pub close_resolved-requires-clause-second : goal.close_resolved-requires-clause-second
close_resolved-requires-clause-second c =
    over_second (no_goods c.args.log.now) c.args.self.now.sides.items c.as_slice.result.now c.args.at c.args.resolvent.marks.items c.truncate.new.self.items c.args.resolvent.hints.items c.args.resolvent.hints.items c.requires.last c.requires.resolvent c.requires.marked c.requires.here (c.as_slice.ensures.value ∙ c.cut.ensures.sides) c.truncate.ensures.items refl

pub returns : goal.returns
returns c =
    over_goes c.args.fresh c.args.pairs (no_goods c.args.log.now) c.args.blocked.now c.args.self.now.sides.items c.cut.new.self.sides.items c.as_slice.result.now c.args.self.now.reasons.items c.cut.new.self.reasons.items c.args.at c.args.resolvent c.in_ok-next.next c.requires.kept c.requires.last c.requires.here c.cut.ensures.sides c.cut.ensures.reasons c.as_slice.ensures.value c.in_ok-next.ensures
