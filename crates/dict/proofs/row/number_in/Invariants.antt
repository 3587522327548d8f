use Rattle.std.proofs.Common.{◌≡◌, drop}
use Rattle.lpcc_case.specs.Points.{coefficient}
use Rattle.dict.proofs.row.number_in.Given as goal

abbrev pub invariant-loop-i : goal.invariant-loop-i
invariant-loop-i l = coefficient (drop l.i l.entries) l.e ≡ coefficient l.entries l.e
