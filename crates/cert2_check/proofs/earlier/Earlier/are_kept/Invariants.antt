use Rattle.std.proofs.Common.{◌≡◌, false, get_or, take}
use Rattle.std.specs.Prelude.{All}
use Rattle.cert2_check.proofs.earlier.Earlier.are_kept.Given as goal

abbrev pub invariant-loop-hint : goal.invariant-loop-hint
invariant-loop-hint l = All (λ h. get_or l.self.dropped h false ≡ false) (take l.hint-index l.hints)
