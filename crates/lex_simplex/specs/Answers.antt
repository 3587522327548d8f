-- What a solve answers, and the cause of each answer.
use Rattle.std.specs.Prelude.{⊤, ℕ, List}
use Rattle.nogoods.specs.declared.choice.Choice.{Choice}
use Rattle.lpcc_case.specs.Instance.{Instance}
use Rattle.walks.specs.Ends.{IsPointAt, IsRayAt, IsSpentAt, IsWideAt}
pub use Rattle.basic_solutions.specs.RowCuts.{IsPointCutOf, IsRayCutOf}
use Rattle.lex_simplex.specs.declared.answer.LpAnswer.{LpAnswer}
use Rattle.lex_simplex.specs.declared.answer.LpAnswer.TheVariants.{Infeasible, Optimum, Unbounded, Wide, Spent}

abbrev pub IsAnswer : Instance → List Choice → ℕ → LpAnswer → Type 0
IsAnswer a tight budget (Infeasible cut) = IsRayCutOf a tight cut
IsAnswer a tight budget (Optimum q cut) = IsPointAt a tight q × IsPointCutOf a tight q cut
IsAnswer a tight budget (Unbounded q r) = IsPointAt a tight q × IsRayAt a tight r
IsAnswer a tight budget (Wide w) = IsWideAt a tight w
IsAnswer a tight budget (Spent s) = IsSpentAt a tight budget s

abbrev pub IsNotSpent : LpAnswer → Type 0
IsNotSpent (Infeasible cut) = ⊤
IsNotSpent (Optimum q cut) = ⊤
IsNotSpent (Unbounded q r) = ⊤
IsNotSpent (Wide w) = ⊤
IsNotSpent (Spent s) = ⊥
