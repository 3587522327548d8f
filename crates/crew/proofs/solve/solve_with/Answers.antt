use Rattle.std.proofs.Common.{arith}
use Rattle.engine.proofs.Asides.{ended_pieces, ended_pivots, ended_shown}
use Rattle.crew.proofs.Wider.{ended_in, solved_wider, verdicts_wider}
use Rattle.crew.proofs.solve.solve_with.Goals as goal

pub returns-in-Ok-Some-clause-verdict : goal.returns-in-Ok-Some-clause-verdict
returns-in-Ok-Some-clause-verdict g c = ended_shown c.args.case.now c.args.options.now c.in-Ok-Some.ending (ended_in c.args.case.now c.args.options.now c.in-Ok-Some.field-0 c.in-Ok-Some.ending c.in-Ok-Some.field-0-is c.in-Ok-Some.ensures)

pub returns-in-Ok-Some-clause-pieces : goal.returns-in-Ok-Some-clause-pieces
returns-in-Ok-Some-clause-pieces g c = ended_pieces c.args.case.now c.args.options.now c.in-Ok-Some.ending (ended_in c.args.case.now c.args.options.now c.in-Ok-Some.field-0 c.in-Ok-Some.ending c.in-Ok-Some.field-0-is c.in-Ok-Some.ensures)

pub returns-in-Ok-Some-clause-pivots : goal.returns-in-Ok-Some-clause-pivots
returns-in-Ok-Some-clause-pivots g c = ended_pivots c.args.case.now c.args.options.now c.in-Ok-Some.ending c.pairs-pairs.ensures.kept (ended_in c.args.case.now c.args.options.now c.in-Ok-Some.field-0 c.in-Ok-Some.ending c.in-Ok-Some.field-0-is c.in-Ok-Some.ensures)

pub returns-in-Ok-None-clause-ending : goal.returns-in-Ok-None-clause-ending
returns-in-Ok-None-clause-ending g c =
    solved_wider c.args.case.now c.args.options.now c.solve_alone.result (omega (arith, c.number-workers.ensures.value, c.number-workers.ensures.least)) c.solve_alone.ensures.ending

pub returns-in-Ok-None-clause-verdict : goal.returns-in-Ok-None-clause-verdict
returns-in-Ok-None-clause-verdict g c =
    verdicts_wider c.args.case.now c.args.options.now c.solve_alone.result (omega (arith, c.number-workers.ensures.value, c.number-workers.ensures.least)) c.solve_alone.ensures.verdict
