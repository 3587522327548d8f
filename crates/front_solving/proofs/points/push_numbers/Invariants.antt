use Rattle.std.proofs.Common.{◌≡◌, ◌++◌, string_bytes}
use Rattle.deck_gen.specs.Generator.{joined}
use Rattle.front_solving.specs.Texts.{number_text}
use Rattle.front_solving.proofs.points.push_numbers.Given as goal

abbrev pub invariant-loop-j : goal.invariant-loop-j
invariant-loop-j l = string_bytes l.text ≡ string_bytes l.initial.text ++ joined (number_text l.fn.numbers) l.j
