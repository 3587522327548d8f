use Rattle.derivation.specs.Logs.{no_goods}
use Rattle.search.specs.declared.walk.Reason.TheVariants.{BlockedPieces}
use Rattle.search.proofs.Steps.{open_chooses}
use Rattle.search.proofs.walk.Walk.open.Goals as goal

pub returns-in_ok-push-in-None : goal.returns-in_ok-push-in-None
returns-in_ok-push-in-None c =
    open_chooses c.args.fresh c.args.pairs (no_goods c.args.log.now) c.args.blocked.now c.args.self.now.sides.items c.push.new.self.sides.items c.args.self.now.reasons.items c.push.new.self.reasons.items BlockedPieces c.requires.kept c.requires.short c.in_ok-push-in-None.ensures.sides c.in_ok-push-in-None.ensures.reasons
