use Rattle.std.proofs.Common.{◌≡◌, ◌++◌, drop}
use Rattle.dict.specs.Equations.{scale}
use Rattle.dict.proofs.Commons.{NarrowEach}
use Rattle.dict.proofs.reduce.divide_all.Given as goal

abbrev pub invariant-loop-i : goal.invariant-loop-i
invariant-loop-i l = record {
  so_far : scale l.g l.out.items ++ drop l.i l.entries ≡ l.entries;
  small : NarrowEach l.out.items;
}
