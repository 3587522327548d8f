use Rattle.std.proofs.Common.{All, take}
use Rattle.cuts.specs.Cuts.{HasSign}
use Rattle.cuts.proofs.signs.has_signs.Given as goal

abbrev pub invariant-loop-multiplier : goal.invariant-loop-multiplier
invariant-loop-multiplier l = All (HasSign l.case l.choices) (take l.multiplier-index l.mult)
