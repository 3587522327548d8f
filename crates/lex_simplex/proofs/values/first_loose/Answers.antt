use Rattle.std.proofs.Common.{arith}
use Rattle.lex_simplex.proofs.Firsts.{first_eps, no_eps}
use Rattle.lex_simplex.proofs.values.first_loose.Goals as goal

pub returns-clause-some : goal.returns-clause-some
returns-clause-some c =
    first_eps c.args.case.now c.args.tight.now c.args.dict.now c.args.row c.loop-i.i c.entries-entries.result.now c.loop-i.best c.entries-entries.ensures.list (omega (arith, c.loop-i-test.false)) c.loop-i.invariant

pub returns-clause-none : goal.returns-clause-none
returns-clause-none c =
    no_eps c.args.case.now c.args.tight.now c.args.dict.now c.args.row c.loop-i.i c.entries-entries.result.now c.loop-i.best c.entries-entries.ensures.list (omega (arith, c.loop-i-test.false)) c.loop-i.invariant
