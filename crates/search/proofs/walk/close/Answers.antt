use Rattle.std.proofs.Common.{sym, subst}
use Rattle.derivation.specs.Logs.{no_goods}
use Rattle.search.specs.declared.walk.Reason.{Reason}
use Rattle.search.specs.declared.walk.Phase.TheVariants.{Exhausted}
use Rattle.search.specs.Walks.{Closes, ExhaustsA}
use Rattle.search.proofs.Steps.{blocked_closes}
use Rattle.search.proofs.walk.close.Goals as goal

pub returns-in-BlockedPieces : goal.returns-in-BlockedPieces
returns-in-BlockedPieces c =
    let P : Reason → Type 0 = λ y. ExhaustsA c.args.fresh c.args.pairs (no_goods c.args.log.now) c.args.blocked.now c.args.sides.now y in
    let Q : Reason → Type 0 = λ y. Closes c.args.fresh c.args.pairs (no_goods c.args.log.now) c.args.blocked.now c.args.sides.now (Exhausted y) in
    subst Q (sym c.in-BlockedPieces.is) (blocked_closes c.args.fresh c.args.pairs (no_goods c.args.log.now) c.args.blocked.now c.args.sides.now c.args.second c.requires.short (subst P c.in-BlockedPieces.is c.requires.first) c.requires.second)
