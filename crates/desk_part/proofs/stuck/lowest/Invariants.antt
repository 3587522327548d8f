use Rattle.std.proofs.Common.{map}
use Rattle.cuts.specs.Cuts.{no_good_of}
use Rattle.desk_part.specs.Stuck.{LowestUpto}
use Rattle.desk_part.proofs.stuck.lowest.Given as goal

abbrev pub invariant-loop-at : goal.invariant-loop-at
invariant-loop-at l = LowestUpto (map no_good_of l.absorbed) l.aside l.at l.best
