use Rattle.search.proofs.Sets.{set_more, set_all}
use Rattle.search.proofs.found.set_of.Goals as goal

pub loop-piece-preserved : goal.loop-piece-preserved
loop-piece-preserved c = set_more c.args.pieces.now c.loop-piece.made c.put.new.set c.loop-piece.piece-index c.in_ok-copy.field-0 c.piece-item.result c.loop-piece-test.true c.piece-item.is c.in_ok-copy.ensures c.in_ok-put.ensures c.loop-piece.invariant

pub returns : goal.returns
returns c = set_all c.args.pieces.now c.loop-piece.made c.loop-piece.piece-index c.loop-piece-test.false c.loop-piece.invariant
