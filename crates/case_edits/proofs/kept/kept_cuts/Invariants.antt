use Rattle.std.proofs.Common.{take}
use Rattle.case_edits.specs.Kept.{AreKept}
use Rattle.case_edits.proofs.kept.kept_cuts.Given as goal

abbrev pub invariant-loop-cut : goal.invariant-loop-cut
invariant-loop-cut l = AreKept l.case (take l.cut-index l.cuts) l.made.items
