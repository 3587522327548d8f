use Rattle.std.proofs.Common.{refl}
use Rattle.derivation.specs.Logs.{no_goods}
use Rattle.search.proofs.Steps.{past_goes}
use Rattle.search.proofs.walk.Walk.back_past.Goals as goal

pub returns : goal.returns
returns c =
    past_goes c.args.fresh c.args.pairs (no_goods c.args.log.now) c.args.blocked.now c.args.self.now.sides.items c.cut.new.self.sides.items c.args.self.now.reasons.items c.cut.new.self.reasons.items c.args.at c.args.resolvent (record { marks = c.truncate.new.self; hints = c.args.resolvent.hints }) c.requires.kept c.requires.last c.requires.resolvent c.requires.unmarked c.cut.ensures.sides c.cut.ensures.reasons c.truncate.ensures.items refl
