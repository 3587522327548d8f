use Rattle.own_order.specs.Searching.{IsTrueOf, Keeps}
use Rattle.own_order.proofs.pair_search.PairSearch.run.Given as goal

abbrev pub invariant-loop : goal.invariant-loop
invariant-loop l = record {
  found : IsTrueOf l.case l.self;
  keeps : Keeps l.fn.self l.self;
}
