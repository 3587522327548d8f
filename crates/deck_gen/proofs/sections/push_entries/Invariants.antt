use Rattle.std.proofs.Common.{◌≡◌, ◌++◌, ◌+◌, ◌<◌}
use Rattle.deck_gen.specs.Generator.{draw, draws_before, entry_of, joined, modulus}
use Rattle.deck_gen.proofs.sections.push_entries.Given as goal

abbrev pub invariant-loop-row : goal.invariant-loop-row
invariant-loop-row l =
    (l.out.items ≡ l.initial.out.items ++ joined (entry_of l.fn.sizes l.fn.column) l.row)
    × (l.drawn ≡ draw l.fn.sizes.seed (draws_before l.fn.sizes l.fn.column + 1 + l.row))
    × (l.drawn < modulus)
