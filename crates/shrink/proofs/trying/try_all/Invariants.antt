use Rattle.std.specs.Option.{option_copied}
use Rattle.shrink.specs.Trials.{AreFound, HaveReasons}
use Rattle.shrink.proofs.trying.try_all.Given as goal

abbrev pub invariant-loop-k : goal.invariant-loop-k
invariant-loop-k l = record {
  found : AreFound l.case l.pivots (option_copied l.limit) l.ng l.found.items;
  before : HaveReasons l.k l.found.items;
}
