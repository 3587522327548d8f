use Rattle.tree_engine.proofs.LoosePairs.{side_b}
use Rattle.tree_engine.proofs.loose.has_tight_side.Goals as goal

pub returns : goal.returns
returns c p means = side_b c.is_tight_by-2.result c.args.case.now p c.args.pair c.in_ok-is_tight_by.field-0 c.if-branch.false (c.in_ok-is_tight_by.ensures p means) (c.is_tight_by-2.ensures p means)
