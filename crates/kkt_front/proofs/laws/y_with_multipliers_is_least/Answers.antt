use Rattle.kkt_front.proofs.LeastFollower.{least_follower}
use Rattle.kkt_front.proofs.laws.y_with_multipliers_is_least.Goals as goal

pub returns : goal.returns
returns c = λ n b p h m. least_follower b p h m
