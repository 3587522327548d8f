use Rattle.std.proofs.Common.{◌≡◌, ◌++◌, drop}
use Rattle.dict.specs.Exchanges.{entered}
use Rattle.dict.proofs.exchange.entered_entries.Given as goal

abbrev pub invariant-loop-i : goal.invariant-loop-i
invariant-loop-i l = l.out.items ++ entered l.flip l.e l.fn.den (drop l.i l.entries) ≡ entered l.flip l.e l.fn.den l.entries
