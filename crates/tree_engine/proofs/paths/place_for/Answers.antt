use Rattle.tree_engine.proofs.PathLaws.{place_end, place_found, place_passed}
use Rattle.tree_engine.proofs.paths.place_for.Goals as goal

pub returns-then-is_behind-clause-place : goal.returns-then-is_behind-clause-place
returns-then-is_behind-clause-place c = place_found c.args.choice c.args.choices.now c.loop-at.at c.is_behind.result c.if-is_behind.true c.is_behind.ensures c.loop-at.invariant

pub loop-at-preserved : goal.loop-at-preserved
loop-at-preserved c = place_passed c.args.choice c.args.choices.now c.loop-at.at c.is_behind.result c.loop-at-test.true c.if-is_behind.false c.is_behind.ensures c.loop-at.invariant

pub returns-clause-place : goal.returns-clause-place
returns-clause-place c = place_end c.args.choice c.args.choices.now c.loop-at.at c.loop-at-test.false c.loop-at.invariant
