use Rattle.std.proofs.Common.{◌≡◌, ◌++◌, drop}
use Rattle.trimming.specs.Marks.{marked}
use Rattle.trimming.proofs.reach.numbers_of.Given as goal

abbrev pub invariant-loop-at : goal.invariant-loop-at
invariant-loop-at l = marked 0 l.marks ≡ l.made ++ marked l.at (drop l.at l.marks)
