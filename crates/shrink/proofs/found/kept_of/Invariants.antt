use Rattle.std.proofs.Common.{◌≡◌, length, take, drop}
use Rattle.shrink.specs.Trials.{AreKept}
use Rattle.shrink.proofs.found.kept_of.Given as goal

abbrev pub invariant-loop-k : goal.invariant-loop-k
invariant-loop-k l = record {
  size : length l.found.items ≡ length l.fn.found.items;
  rest : drop l.k l.found.items ≡ drop l.k l.fn.found.items;
  so_far : AreKept (take l.k l.choices) (take l.k l.fn.found.items) l.kept;
}
