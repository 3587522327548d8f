use Rattle.std.proofs.Common.{◌≡◌, ◌++◌}
use Rattle.deck_gen.specs.Generator.{joined}
use Rattle.kkt_front.specs.DeckTexts.{pair_line}
use Rattle.kkt_front.proofs.lines.push_pair_lines.Given as goal

abbrev pub invariant-loop-pair : goal.invariant-loop-pair
invariant-loop-pair l = l.out.items ≡ l.initial.out.items ++ joined (pair_line l.fn.row l.fn.column) l.pair
