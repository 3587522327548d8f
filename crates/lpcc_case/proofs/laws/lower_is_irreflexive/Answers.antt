use Rattle.lpcc_case.proofs.Order.{lower-self}
use Rattle.lpcc_case.proofs.laws.lower_is_irreflexive.Goals as goal

pub returns : goal.returns
returns c = lower-self
