use Rattle.std.proofs.Common.{take}
use Rattle.cert2_text.specs.Wholes.{said_by}
use Rattle.cert2_check.specs.Results2.{AreGood, FirstPass2, Shows}
use Rattle.cert2_check.proofs.lines2.first_failing.Given as goal

abbrev pub invariant-loop-at : goal.invariant-loop-at
invariant-loop-at l = FirstPass2 l.case l.value l.lines l.at × Shows l.earlier (said_by (take l.at l.lines)) × AreGood l.earlier
