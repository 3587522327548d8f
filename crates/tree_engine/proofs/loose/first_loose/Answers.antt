use Rattle.std.proofs.Common.{◌≤◌, length, rules}
use Rattle.tree_engine.proofs.LoosePairs.{all_tight}
use Rattle.tree_engine.proofs.loose.first_loose.Goals as goal

pub returns-clause-none : goal.returns-clause-none
returns-clause-none c =
    let all : length c.args.case.now.pairs ≤ c.loop-pair.pair = search rules in
    all_tight c.args.case.now c.args.point.now c.loop-pair.pair all c.loop-pair.invariant
