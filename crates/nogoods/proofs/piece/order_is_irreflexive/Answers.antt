use Rattle.nogoods.proofs.Order.{precedes-self}
use Rattle.nogoods.proofs.piece.order_is_irreflexive.Goals as goal

pub returns : goal.returns
returns c = precedes-self
