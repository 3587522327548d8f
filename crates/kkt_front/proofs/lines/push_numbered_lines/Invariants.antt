use Rattle.std.proofs.Common.{◌≡◌, ◌++◌}
use Rattle.deck_gen.specs.Generator.{joined}
use Rattle.kkt_front.specs.DeckTexts.{numbered_line}
use Rattle.kkt_front.proofs.lines.push_numbered_lines.Given as goal

abbrev pub invariant-loop-number : goal.invariant-loop-number
invariant-loop-number l = l.out.items ≡ l.initial.out.items ++ joined (numbered_line l.fn.front) l.number
