use Rattle.std.proofs.Common.{◌≡◌, ◌++◌, drop}
use Rattle.play.specs.Points.{choices_from, choices_of}
use Rattle.play.proofs.piece_choices.list_choices.Given as goal

abbrev pub invariant-loop-k : goal.invariant-loop-k
invariant-loop-k l = l.made.items ++ choices_from l.k (drop l.k l.piece) ≡ choices_of l.piece
