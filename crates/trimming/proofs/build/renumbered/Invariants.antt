use Rattle.std.proofs.Common.{◌≡◌, map, take, get_or}
use Rattle.trimming.proofs.build.renumbered.Given as goal

abbrev pub invariant-loop-hint : goal.invariant-loop-hint
invariant-loop-hint l = l.made ≡ map (λ h. get_or l.numbers h 0) (take l.hint-index l.hints)
