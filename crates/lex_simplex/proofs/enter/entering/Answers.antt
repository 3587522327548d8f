use Rattle.std.proofs.Common.{arith}
use Rattle.lex_simplex.proofs.Firsts.{first_helps, none_helps}
use Rattle.lex_simplex.proofs.enter.entering.Goals as goal

pub returns-clause-some : goal.returns-clause-some
returns-clause-some c =
    first_helps c.args.case.now c.args.tight.now c.args.falls c.args.dict.now c.args.row c.loop-i.i c.entries-entries.result.now c.loop-i.best c.entries-entries.ensures.list (omega (arith, c.loop-i-test.false)) c.loop-i.invariant

pub returns-clause-none : goal.returns-clause-none
returns-clause-none c =
    none_helps c.args.case.now c.args.tight.now c.args.falls c.args.dict.now c.args.row c.loop-i.i c.entries-entries.result.now c.loop-i.best c.entries-entries.ensures.list (omega (arith, c.loop-i-test.false)) c.loop-i.invariant
