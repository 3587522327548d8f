use Rattle.basic_solutions.proofs.Receding as receding
use Rattle.basic_solutions.proofs.laws.direction_recedes.Goals as goal

pub returns : goal.returns
returns c = receding.direction_recedes
