use Rattle.lpcc_case.proofs.Order.{lower-trans}
use Rattle.lpcc_case.proofs.laws.lower_is_transitive.Goals as goal

pub returns : goal.returns
returns c = lower-trans
