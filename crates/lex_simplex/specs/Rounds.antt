-- What comes next at a place of a walk, and where a walk ends.
use Rattle.std.specs.Prelude.{◌≡◌, ◌≢◌, ◌<◌, ◌≤◌, ◌+◌, ℕ, pos, true, List, length}
use Rattle.nogoods.specs.declared.choice.Choice.{Choice}
use Rattle.lpcc_case.specs.declared.form.Form.TheVariants.{Con}
use Rattle.lpcc_case.specs.Instance.{Instance}
use Rattle.dict.specs.Dictionaries.{Dictionary, IsWideRow, form_at, row_at}
use Rattle.walks.specs.Duals.{NoneFree, NoneHelps}
use Rattle.walks.specs.Steps.{Blocks, IsEntering, IsFixing, IsPivot, IsStageRow, goes_down, is_last}
use Rattle.walks.specs.Values.{is_fixed}
use Rattle.walks.specs.Walks.{IsRaised, IsSkipped, IsStep, Place}
use Rattle.lex_simplex.specs.declared.fix.Look.{Look}
use Rattle.lex_simplex.specs.declared.fix.Look.TheVariants as look
use Rattle.lex_simplex.specs.declared.next.Next.{Next}
use Rattle.lex_simplex.specs.declared.next.Next.TheVariants as next
use Rattle.lex_simplex.specs.declared.walk.End.{End}
use Rattle.lex_simplex.specs.declared.walk.End.TheVariants as end
use Rattle.lex_simplex.specs.declared.walk.Round.{Round}
use Rattle.lex_simplex.specs.declared.walk.Round.TheVariants as round

-- no form reaches 0 where the form at this column enters
abbrev pub NoneLeaves : Instance → List Choice → ℕ → Dictionary → ℕ → ℕ → Type 0
NoneLeaves a tight stage d row col = (i : ℕ) → i < length d.rows → Blocks a tight stage d row col (goes_down a stage d row col) i → ⊥

-- what comes next in a stage: it is at its end; or no form can enter; or none leaves; or a pivot
abbrev pub IsNext : Instance → List Choice → ℕ → Dictionary → Next → Type 0
IsNext a tight stage d next.Raised = (stage < length a.constraints) × IsRaised a tight stage d
IsNext a tight stage d (next.Stuck row) = IsStageRow a tight stage d row × NoneHelps a tight (is_last a stage) d row
IsNext a tight stage d (next.Open row col) = IsStageRow a tight stage d row × IsEntering a tight stage d row col × NoneLeaves a tight stage d row col
IsNext a tight stage d (next.Pivot row col) = IsPivot a tight stage d row col

-- constraint k is fixed and stands in this row, no form that may change has an entry there, and the constant is not 0
pub record IsInconsistent (a : Instance) (tight : List Choice) (k : ℕ) (d : Dictionary) (row : ℕ) : Type 0 where
  pub within : row < length d.rows
  pub named : k < length a.constraints
  pub form : form_at d.basic row ≡ Con k
  pub fixed : is_fixed a tight k ≡ true
  pub none : NoneFree a tight d row
  pub constant : (row_at d.rows row).constant ≢ pos 0

-- all fixed constraints are looked at, and the walk stands in a stage
abbrev pub IsInStage : Instance → Place → Type 0
IsInStage a p = (p.looked ≡ length a.constraints) × (p.stage ≤ length a.constraints)

-- the walk ends at this place
abbrev pub IsEnd : Instance → List Choice → ℕ → Place → End → Type 0
IsEnd a tight budget p (end.Inconsistent row) = IsInconsistent a tight p.looked p.at row
IsEnd a tight budget p (end.Stuck row) = IsInStage a p × IsStageRow a tight p.stage p.at row × NoneHelps a tight (is_last a p.stage) p.at row
IsEnd a tight budget p (end.Open row col) = IsInStage a p × IsStageRow a tight p.stage p.at row × IsEntering a tight p.stage p.at row col × NoneLeaves a tight p.stage p.at row col
IsEnd a tight budget p (end.Wide row col) = IsStep a tight p row col × ((i : ℕ) × (at : ℕ) × IsWideRow row col p.at i at)
IsEnd a tight budget p end.Spent = IsInStage a p × (p.pivots ≡ budget) × ((row : ℕ) × (col : ℕ) × IsPivot a tight p.stage p.at row col)

-- a round of a stage: the walk went on by a pivot, or the stage is at its end, or the walk ends
abbrev pub IsRound : Instance → List Choice → ℕ → Place → Place → Round → Type 0
IsRound a tight budget p q round.Went = (q.pivots ≡ p.pivots + 1) × (q.pivots ≤ budget)
IsRound a tight budget p q round.Raised = (q.stage < length a.constraints) × IsRaised a tight q.stage q.at
IsRound a tight budget p q (round.Ended e) = IsEnd a tight budget q e

-- what is to be done with constraint k: it is not fixed or passed over; or it is exchanged; or it shows that there is no point
abbrev pub IsNextLook : Instance → List Choice → ℕ → Dictionary → Look → Type 0
IsNextLook a tight k d look.Skip = IsSkipped a tight k d
IsNextLook a tight k d (look.Exchange row col) = IsFixing a tight k d row col
IsNextLook a tight k d (look.Inconsistent row) = IsInconsistent a tight k d row
