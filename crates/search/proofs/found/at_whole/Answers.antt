use Rattle.std.proofs.Common.{◌∙◌}
use Rattle.derivation.specs.Logs.{no_goods}
use Rattle.search.proofs.Endings.{first_at}
use Rattle.search.proofs.found.at_whole.Goals as goal

pub returns-in_ok-piece-in-None : goal.returns-in_ok-piece-in-None
returns-in_ok-piece-in-None c =
    (first_at c.args.fresh c.args.pairs (no_goods c.args.log.now) c.args.blocked.now c.args.walk.now.sides.items c.as_slice.result.now c.in_ok-piece-in-None.piece c.args.walk.now.reasons.items c.requires.kept c.requires.full c.as_slice.ensures.value c.in-None.ensures.unbarred c.in-None.ensures.free (c.in_ok-piece-in-None.ensures ∙ c.as_slice-in-None.ensures.value), tt, c.requires.kept)
