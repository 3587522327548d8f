use Rattle.std.proofs.Common.{take}
use Rattle.search.proofs.Sets.{Same}
use Rattle.search.proofs.found.set_of.Given as goal

abbrev pub invariant-loop-piece : goal.invariant-loop-piece
invariant-loop-piece l = Same l.made (take l.piece-index l.pieces)
