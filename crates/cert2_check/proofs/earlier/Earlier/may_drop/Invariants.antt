use Rattle.std.proofs.Common.{◌≡◌, ◌<◌, false, get_or, length, take}
use Rattle.std.specs.Prelude.{All}
use Rattle.cert2_check.proofs.earlier.Earlier.may_drop.Given as goal

abbrev pub invariant-loop-number : goal.invariant-loop-number
invariant-loop-number l = All (λ h. (h < length l.self.no_goods) × (get_or l.self.dropped h false ≡ false)) (take l.number-index l.numbers)
