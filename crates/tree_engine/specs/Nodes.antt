-- What one node comes to.
use Rattle.std.specs.Prelude.{ℕ, List, Option, Some}
use Rattle.nogoods.specs.declared.choice.Choice.{Choice}
use Rattle.lpcc_case.specs.Instance.{Instance}
use Rattle.lpcc_case.specs.declared.point.Point.{Point}
use Rattle.reasons.specs.Reasons.{IsUnder}
use Rattle.lex_simplex.specs.declared.answer.LpAnswer.{LpAnswer}
use Rattle.lex_simplex.specs.declared.answer.LpAnswer.TheVariants.{Infeasible, Optimum, Unbounded, Wide, Spent}
use Rattle.lex_simplex.specs.Answers.{IsAnswer}
use Rattle.cert_check.specs.Acceptance.{IsWholePiece}
use Rattle.tree_engine.specs.declared.visit.Visit.{Visit}
use Rattle.tree_engine.specs.declared.visit.Visit.TheVariants as visit
use Rattle.tree_engine.specs.Bests.{IsCandidate}
use Rattle.tree_engine.specs.Runs.{IsSplitAt}
use Rattle.tree_engine.specs.Trees.{IsLeafCut}

-- the program neither is infeasible nor has an optimum
abbrev pub IsOpen : LpAnswer → Type 0
IsOpen (Infeasible cut) = ⊥
IsOpen (Optimum q cut) = ⊥
IsOpen (Unbounded q ray) = Unit {0}
IsOpen (Wide at) = Unit {0}
IsOpen (Spent at) = Unit {0}

abbrev pub IsVisit : Instance → ℕ → Option Point → List Choice → Visit → Type 0
IsVisit a budget best path (visit.Closed cut) = IsLeafCut a best path cut
IsVisit a budget best path (visit.Improved q cut) = IsCandidate a q × IsUnder q best × IsLeafCut a (Some q) path cut
IsVisit a budget best path (visit.Split pair answer) = IsSplitAt a budget best path pair answer
IsVisit a budget best path (visit.Whole answer) = IsWholePiece a path × IsOpen answer × IsAnswer a path budget answer
