use Rattle.best.specs.Passes.{IsPassOf}
use Rattle.pool_tests.proofs.best_tests.offer_down.Given as goal

abbrev pub invariant-loop-k : goal.invariant-loop-k
invariant-loop-k g l = IsPassOf l.best l.pass
