use Rattle.std.proofs.Common.{◌≡◌, ◌≤◌, ◌-◌}
use Rattle.walks.specs.Walks.{IsOnWalk}
use Rattle.lex_simplex.specs.Rounds.{IsInStage}
use Rattle.lex_simplex.proofs.stages.run_stage.Given as goal

abbrev pub invariant-loop-end : goal.invariant-loop-end
invariant-loop-end l = record {
  on : IsOnWalk l.case l.tight l.walk;
  in_stage : IsInStage l.case l.walk;
  looked : l.walk.looked ≡ l.fn.walk.looked;
  stage : l.walk.stage ≡ l.fn.walk.stage;
  few : l.walk.pivots ≤ l.budget;
}

abbrev pub decreases-loop-end : goal.decreases-loop-end
decreases-loop-end l = l.budget - l.walk.pivots
