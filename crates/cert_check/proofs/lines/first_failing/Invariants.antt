use Rattle.cert_check.specs.Barring.{FirstPass}
use Rattle.cert_check.proofs.lines.first_failing.Given as goal

abbrev pub invariant-loop-at : goal.invariant-loop-at
invariant-loop-at l = FirstPass l.case l.value l.lines l.at
