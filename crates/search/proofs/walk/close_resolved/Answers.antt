use Rattle.std.proofs.Common.{◌++◌, ◌∷◌, [], true, subst}
use Rattle.derivation.specs.Logs.{no_goods}
use Rattle.search.specs.declared.walk.Reason.{Reason}
use Rattle.search.specs.Walks.{ExhaustsA}
use Rattle.search.proofs.Steps.{blocked_resolves}
use Rattle.search.proofs.walk.close_resolved.Goals as goal

pub returns-in-BlockedPieces : goal.returns-in-BlockedPieces
returns-in-BlockedPieces c =
    let P : Reason → Type 0 = λ y. ExhaustsA c.args.fresh c.args.pairs (no_goods c.args.log.now) c.args.blocked.now c.args.sides.now y in
    blocked_resolves c.args.fresh c.args.pairs (no_goods c.args.log.now) c.args.blocked.now c.args.sides.now (c.args.resolvent.marks.items ++ true ∷ []) c.args.resolvent.hints.items c.requires.short c.requires.named (subst P c.in-BlockedPieces.is c.requires.first) c.requires.second
