use Rattle.std.proofs.Common.{◌≡◌, ◌++◌, drop}
use Rattle.std.specs.List.{enumerate_from}
use Rattle.dict.specs.Forms.{nonzero}
use Rattle.dict.proofs.start.row_of_cost.Given as goal

abbrev pub invariant-loop-j : goal.invariant-loop-j
invariant-loop-j l = l.entries.items ++ nonzero (enumerate_from l.j (drop l.j l.cost)) ≡ nonzero (enumerate_from 0 l.cost)
