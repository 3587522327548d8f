use Rattle.nogoods.proofs.Order.{precedes-trans}
use Rattle.nogoods.proofs.piece.order_is_transitive.Goals as goal

pub returns : goal.returns
returns c = precedes-trans
