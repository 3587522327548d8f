use Rattle.settling.proofs.Outcomes.{direction_outcome, infeasible_bars}
use Rattle.settling.proofs.outcome.by_program.Goals as goal

pub by_cut-requires-clause-bars : goal.by_cut-requires-clause-bars
by_cut-requires-clause-bars c =
    infeasible_bars c.args.case.now c.args.options.now.pivots c.args.piece.now c.in_ok-cut.field-0 c.in-Infeasible.cut c.in-Infeasible.is c.in_ok-cut.ensures

pub returns-in-Unbounded-clause-outcome : goal.returns-in-Unbounded-clause-outcome
returns-in-Unbounded-clause-outcome c =
    direction_outcome c.args.case.now c.args.options.now c.args.piece.now c.in_ok-cut.field-0 c.in-Unbounded.point c.in-Unbounded.ray c.requires.piece c.in-Unbounded.is c.in_ok-cut.ensures
