use Rattle.derivation.specs.Logs.{no_goods}
use Rattle.search.proofs.Steps.{learned_turns}
use Rattle.search.proofs.walk.Walk.back_to_a.Goals as goal

pub returns-clause-next : goal.returns-clause-next
returns-clause-next c =
    learned_turns c.args.fresh c.args.pairs (no_goods c.args.log.now) (no_goods c.learn.new.log) c.args.blocked.now c.args.self.now.sides.items c.cut.new.self.sides.items c.as_slice.result.now c.args.self.now.reasons.items c.cut.new.self.reasons.items c.args.at c.in_ok-step.step c.args.resolvent c.learn.ensures.grown.adds c.requires.kept c.requires.last c.requires.resolvent c.requires.marked c.requires.here c.cut.ensures.sides c.cut.ensures.reasons c.as_slice.ensures.value c.in_ok-step.ensures.made
