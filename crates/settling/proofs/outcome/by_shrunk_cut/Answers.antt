use Rattle.settling.proofs.Outcomes.{shrunk_outcome}
use Rattle.settling.proofs.outcome.by_shrunk_cut.Goals as goal

pub returns-clause-outcome : goal.returns-clause-outcome
returns-clause-outcome c =
    shrunk_outcome c.args.case.now c.args.options.now c.args.piece.now c.args.cut c.in_ok-shrunk.shrunk c.in_ok-best.best c.args.known.now.incumbent c.requires.full c.requires.bars c.requires.known.best c.in_ok-best.ensures c.in_ok-shrunk.ensures.shrunk
