use Rattle.std.proofs.Common.{◌≡◌, map, take}
use Rattle.sense.specs.Senses.{signed}
use Rattle.deck_case.proofs.signs.all_signed.Given as goal

abbrev pub invariant-loop-number : goal.invariant-loop-number
invariant-loop-number l = l.made ≡ map (signed l.sense) (take l.number-index l.numbers)
