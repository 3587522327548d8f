use Rattle.std.proofs.Common.{◌≡◌, ◌++◌, ◌+◌, ◌<◌}
use Rattle.deck_gen.specs.Generator.{draw, draws_before, joined, modulus, right_side_of}
use Rattle.deck_gen.proofs.sections.push_right_sides.Given as goal

abbrev pub invariant-loop-row : goal.invariant-loop-row
invariant-loop-row l =
    (l.out.items ≡ l.initial.out.items ++ joined (right_side_of l.fn.sizes) l.row)
    × (l.drawn ≡ draw l.fn.sizes.seed (draws_before l.fn.sizes l.fn.sizes.columns + l.row))
    × (l.drawn < modulus)
