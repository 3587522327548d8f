use Rattle.branching.proofs.Runs.{pivots_last}
use Rattle.branching.proofs.running.search.Goals as goal

pub returns-clause-pivots : goal.returns-clause-pivots
returns-clause-pivots c = λ whole. pivots_last c.args.case.now c.args.options.now c.branch-alloc.result c.pairs-pairs.ensures.kept whole c.branch-alloc.ensures.answer
