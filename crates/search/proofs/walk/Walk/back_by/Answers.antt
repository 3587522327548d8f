use Rattle.std.proofs.Common.{◌∙◌}
use Rattle.derivation.specs.Logs.{no_goods}
use Rattle.search.proofs.Steps.{back_turns, back_at_b, back_first, back_closes}
use Rattle.search.proofs.walk.Walk.back_by.Goals as goal

pub close-requires-clause-first : goal.close-requires-clause-first
close-requires-clause-first c =
    back_first c.args.fresh c.args.pairs (no_goods c.args.log.now) c.args.blocked.now c.args.self.now.sides.items c.as_slice.result.now c.args.self.now.reasons.items c.args.step c.in-Some.last c.index-first.result.now c.requires.kept c.requires.within c.requires.bars c.in-Some.ensures.some c.in-B.is (c.as_slice.ensures.value ∙ c.cut.ensures.sides) c.index-first.ensures

pub close-requires-clause-second : goal.close-requires-clause-second
close-requires-clause-second c =
    (c.requires.within, (back_at_b c.args.fresh c.args.pairs (no_goods c.args.log.now) c.args.blocked.now c.args.self.now.sides.items c.as_slice.result.now c.args.self.now.reasons.items c.args.step c.in-Some.last c.requires.kept c.requires.within c.requires.bars c.in-Some.ensures.some c.in-B.is (c.as_slice.ensures.value ∙ c.cut.ensures.sides)).2)

pub returns-in-A-clause-next : goal.returns-in-A-clause-next
returns-in-A-clause-next c =
    back_turns c.args.fresh c.args.pairs (no_goods c.args.log.now) c.args.blocked.now c.args.self.now.sides.items c.cut.new.self.sides.items c.args.self.now.reasons.items c.cut.new.self.reasons.items c.args.step c.in-Some.last c.requires.kept c.requires.within c.requires.bars c.in-Some.ensures.some c.in-A.is c.cut.ensures.sides c.cut.ensures.reasons

pub returns-in_ok-next-in-B-clause-next : goal.returns-in_ok-next-in-B-clause-next
returns-in_ok-next-in-B-clause-next c =
    back_closes c.args.fresh c.args.pairs (no_goods c.args.log.now) c.args.blocked.now c.args.self.now.sides.items c.cut.new.self.sides.items c.as_slice.result.now c.args.self.now.reasons.items c.cut.new.self.reasons.items c.args.step c.in-Some.last c.in_ok-next-in-B.next c.requires.kept c.requires.bars c.in-Some.ensures.some c.in-B.is c.cut.ensures.sides c.cut.ensures.reasons c.as_slice.ensures.value c.in_ok-next-in-B.ensures
