use Rattle.std.proofs.Common.{◌≡◌, ◌++◌, drop}
use Rattle.cert_write.proofs.Pushes.{hints_text}
use Rattle.cert_write.proofs.write.push_hints.Given as goal

abbrev pub invariant-loop-hint : goal.invariant-loop-hint
invariant-loop-hint l = l.out.items ++ hints_text (drop l.hint-index l.hints) ≡ l.fn.out.items ++ hints_text l.hints
