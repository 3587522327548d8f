use Rattle.derivation.specs.Logs.{no_goods}
use Rattle.search.proofs.WalkLaws.{exhausted_blocked, witnessed_by}
use Rattle.search.proofs.walk.blocked_reason.Goals as goal

pub returns-then-has-clause-some : goal.returns-then-has-clause-some
returns-then-has-clause-some c =
    let inside = c.has.ensures.0 c.if-has.true in
    (exhausted_blocked c.args.pairs (no_goods c.args.log.now) c.args.blocked.now c.args.sides.now c.requires.full inside, witnessed_by c.args.fresh c.args.pairs (no_goods c.args.log.now) c.args.blocked.now c.args.sides.now c.requires.full inside c.requires.unbarred)
