use Rattle.std.proofs.Common.{◌≤◌, ◌<◌, ◌-◌, vec_len}
use Rattle.std.specs.Io.KnownBytes.{Consumes}
use Rattle.lp_io.proofs.take.take_all.Given as goal

abbrev pub invariant-loop-count : goal.invariant-loop-count
invariant-loop-count g l = record {
  room : 0 < vec_len l.buffer;
  read : Consumes (g.S.Source.left l.fn.src) (g.S.Source.left l.src) l.taken.items;
  short : vec_len l.taken ≤ l.limit;
  later : g.S.Source.faults l.fn.src ≤ g.S.Source.faults l.src;
}

abbrev pub decreases-loop-count : goal.decreases-loop-count
decreases-loop-count g l = l.limit - vec_len l.taken
