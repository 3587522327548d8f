use Rattle.tree_engine.proofs.LoosePairs.{tight_of_one}
use Rattle.tree_engine.proofs.loose.is_tight_by.Goals as goal

pub returns : goal.returns
returns c p means = tight_of_one c.args.case.now p c.in_ok-choices.choices c.args.choice c.is_tight_at.result c.in_ok-choices.ensures (c.is_tight_at.ensures p means)
