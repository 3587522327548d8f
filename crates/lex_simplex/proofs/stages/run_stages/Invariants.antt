use Rattle.std.proofs.Common.{◌≤◌, ◌-◌, length}
use Rattle.walks.specs.Walks.{IsOnWalk}
use Rattle.lex_simplex.specs.Rounds.{IsInStage}
use Rattle.lex_simplex.proofs.stages.run_stages.Given as goal

abbrev pub invariant-loop-end : goal.invariant-loop-end
invariant-loop-end l = record {
  on : IsOnWalk l.case l.tight l.walk;
  in_stage : IsInStage l.case l.walk;
  few : l.walk.pivots ≤ l.budget;
}

abbrev pub decreases-loop-end : goal.decreases-loop-end
decreases-loop-end l = length l.case.constraints - l.walk.stage
