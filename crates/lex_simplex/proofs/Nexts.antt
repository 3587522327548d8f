-- What comes next in a stage.
use Rattle.std.proofs.Common.{ℕ, ◌<◌, ◌≡◌, subst, arith, length, Bool, inl, inr}
use Rattle.nogoods.specs.declared.choice.Choice.{Choice}
use Rattle.std.specs.Prelude.{List}
use Rattle.lpcc_case.specs.declared.form.Form.TheVariants.{Con}
use Rattle.lpcc_case.specs.Instance.{Instance}
use Rattle.dict.specs.Dictionaries.{Dictionary, form_at, entry_at}
use Rattle.walks.specs.Duals.{Helps, IsPlaced}
use Rattle.walks.specs.Steps.{Blocks, IsEntering, IsFirst, IsSized, IsStageRow, goes_down, is_last}
use Rattle.walks.specs.Walks.{IsOnWalk, IsRaised, Place}
use Rattle.walks.proofs.Walks.{walk_is_sound}
use Rattle.lpcc_case.specs.Cases.{IsCase}
use Rattle.walks.proofs.Points.{con_stands}

pub open_of : (a : Instance) (tight : List Choice) (stage : ℕ) (d : Dictionary) (row col : ℕ) (falls down : Bool) → falls ≡ is_last a stage → down ≡ goes_down a stage d row col → IsStageRow a tight stage d row → IsFirst a d.nonbasic (λ j. Helps a tight falls (form_at d.nonbasic j) (entry_at d row j)) col → ((i : ℕ) → i < length d.rows → Blocks a tight stage d row col down i → ⊥) → IsStageRow a tight stage d row × IsEntering a tight stage d row col × ((i : ℕ) → i < length d.rows → Blocks a tight stage d row col (goes_down a stage d row col) i → ⊥)
open_of a tight stage d row col falls down ef ed stands first none = (
  stands,
  subst (λ (b : Bool). IsFirst a d.nonbasic (λ j. Helps a tight b (form_at d.nonbasic j) (entry_at d row j)) col) ef first,
  subst (λ (b : Bool). (i : ℕ) → i < length d.rows → Blocks a tight stage d row col b i → ⊥) ed none,
)

pub raised_of_none : (a : Instance) (tight : List Choice) (stage : ℕ) (d : Dictionary) → IsSized a d → stage < length a.constraints → ((i : ℕ) → i < length d.rows → form_at d.basic i ≡ Con stage → ⊥) → (stage < length a.constraints) × IsRaised a tight stage d
raised_of_none a tight stage d sized lt none = (
  lt,
  elim (con_stands a d stage sized.of lt) [
    | inl n ↦ inr (inl n)
    | inr b ↦ absurd (none b.0 (omega (arith, b.1, sized.size)) b.2)
  ],
)

pub walk_placed : (a : Instance) (tight : List Choice) (p : Place) → IsCase a → IsOnWalk a tight p → IsPlaced a p.at
walk_placed a tight p kept on = (walk_is_sound a tight p kept on).placed
