use Rattle.std.proofs.Common.{◌≡◌, take}
use Rattle.case_edits.specs.Edits.{with_right_sides}
use Rattle.case_edits.proofs.edited.copies_with.Given as goal

abbrev pub invariant-loop-number : goal.invariant-loop-number
invariant-loop-number l = l.made.items ≡ take l.number (with_right_sides l.changed l.constraints)
