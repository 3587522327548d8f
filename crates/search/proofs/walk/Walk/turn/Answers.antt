use Rattle.derivation.specs.Logs.{no_goods}
use Rattle.search.proofs.Steps.{turn_chooses, turn_closes}
use Rattle.search.proofs.walk.Walk.turn.Goals as goal

pub returns-in_ok-next-in-Some : goal.returns-in_ok-next-in-Some
returns-in_ok-next-in-Some c =
    turn_closes c.args.fresh c.args.pairs (no_goods c.args.log.now) c.args.blocked.now c.args.self.now.sides.items c.as_slice-in-Some.result.now c.args.self.now.reasons.items c.args.reason c.in_ok-next-in-Some.next c.requires.kept c.as_slice-in-Some.ensures.value c.in_ok-next-in-Some.ensures

pub returns-in_ok-push-in-None : goal.returns-in_ok-push-in-None
returns-in_ok-push-in-None c =
    turn_chooses c.args.fresh c.args.pairs (no_goods c.args.log.now) c.args.blocked.now c.args.self.now.sides.items c.push.new.self.sides.items c.args.self.now.reasons.items c.push.new.self.reasons.items c.args.reason c.requires.kept c.requires.short c.requires.exhausted c.in_ok-push-in-None.ensures.sides c.in_ok-push-in-None.ensures.reasons
