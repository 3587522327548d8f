use Rattle.own_order.specs.Searching.{IsTrueOf}
use Rattle.fast_tests.proofs.search_tests.search_in_slices.Given as goal

abbrev pub invariant-loop : goal.invariant-loop
invariant-loop l = IsTrueOf l.case l.search
