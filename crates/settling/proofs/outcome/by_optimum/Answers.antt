use Rattle.settling.proofs.Outcomes.{improved_active, is_candidate, point_cut_bars}
use Rattle.settling.proofs.outcome.by_optimum.Goals as goal

pub improve-requires-clause-point : goal.improve-requires-clause-point
improve-requires-clause-point c = is_candidate c.args.case.now c.args.piece.now c.args.point c.requires.piece c.requires.point

pub by_cut-requires-clause-bars : goal.by_cut-requires-clause-bars
by_cut-requires-clause-bars c = point_cut_bars c.args.case.now c.args.piece.now c.args.point c.args.cut c.requires.cut

pub by_cut-requires-clause-active : goal.by_cut-requires-clause-active
by_cut-requires-clause-active c =
    improved_active c.args.case.now c.args.piece.now c.args.point c.args.cut c.args.known.now.incumbent c.improve.new.self.incumbent c.requires.piece c.requires.point c.requires.cut c.requires.known.best c.improve.ensures.lowered
