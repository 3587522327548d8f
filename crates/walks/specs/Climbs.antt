-- The dictionaries of one stage, each with a better value than the one before.
use Rattle.std.specs.Prelude.{◌≡◌, ◌<◌, ℕ, List, [], ◌∷◌, length, ⊤}
use Rattle.nogoods.specs.declared.choice.Choice.{Choice}
use Rattle.lpcc_case.specs.Instance.{Instance}
use Rattle.dict.specs.Exchanges.{turn}
use Rattle.dict.specs.Dictionaries.{Dictionary, row_at, form_at}
use Rattle.orders.specs.Order.{IsLess}
use Rattle.walks.specs.Values.{parts, value}
use Rattle.walks.specs.Duals.{IsPlaced}
use Rattle.walks.specs.Steps.{IsSized, goal, is_last}

-- a dictionary with the row of the stage's form
pub record Standing : Type 0 where
  pub at : Dictionary
  pub row : ℕ

pub record IsStanding (a : Instance) (stage : ℕ) (s : Standing) : Type 0 where
  pub sized : IsSized a s.at
  pub placed : IsPlaced a s.at
  pub within : s.row < length s.at.rows
  pub form : form_at s.at.basic s.row ≡ goal a stage

-- the stage's form has a better value at t than at s
abbrev pub Climbs : Instance → List Choice → ℕ → Standing → Standing → Type 0
Climbs a tight stage s t =
    IsLess (parts a) (row_at s.at.rows s.row).den (λ p. turn (is_last a stage) (value a tight s.at s.row p)) (row_at t.at.rows t.row).den (λ p. turn (is_last a stage) (value a tight t.at t.row p))

-- each is better than the next one, which was there before it
abbrev pub IsClimb : Instance → List Choice → ℕ → List Standing → Type 0
IsClimb a tight stage [] = ⊤
IsClimb a tight stage (s ∷ []) = ⊤
IsClimb a tight stage (s ∷ t ∷ before) = Climbs a tight stage t s × IsClimb a tight stage (t ∷ before)
