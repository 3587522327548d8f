use Rattle.std.proofs.Common.{◌≡◌, ◌++◌, drop}
use Rattle.cert_parts.specs.PieceChoices.{choices_from, choices_of}
use Rattle.cert_parts.proofs.pieces.list_choices.Given as goal

abbrev pub invariant-loop-k : goal.invariant-loop-k
invariant-loop-k l = l.made.items ++ choices_from l.k (drop l.k l.piece) ≡ choices_of l.piece
