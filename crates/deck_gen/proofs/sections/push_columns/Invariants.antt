use Rattle.std.proofs.Common.{◌≡◌, ◌++◌, ◌<◌}
use Rattle.deck_gen.specs.Generator.{column_lines, draw, draws_before, joined, modulus}
use Rattle.deck_gen.proofs.sections.push_columns.Given as goal

abbrev pub invariant-loop-column : goal.invariant-loop-column
invariant-loop-column l =
    (l.out.items ≡ l.initial.out.items ++ joined (column_lines l.fn.sizes) l.column)
    × (l.drawn ≡ draw l.fn.sizes.seed (draws_before l.fn.sizes l.column))
    × (l.drawn < modulus)
