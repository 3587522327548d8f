-- How a search makes a log grow.
use Rattle.std.specs.Prelude.{◌≡◌, ◌<◌, ℕ, All, List, [], ◌++◌, length, slice_index_or}
use Rattle.nogoods.specs.declared.choice.Choice.{Choice}
use Rattle.nogoods.specs.declared.choice.Side.{Side}
use Rattle.derivation.specs.declared.step.Step.{Step}
use Rattle.derivation.specs.declared.step.Step.TheVariants.{Start, Derived}
use Rattle.derivation.specs.HintRuns.{NamesBelow}
use Rattle.derivation.specs.Logs.{no_goods}
use Rattle.search.specs.FirstPieces.{IsBarred}

abbrev pub IsDerivedBelow : ℕ → Step → Type 0
IsDerivedBelow pairs (Start ng) = ⊥
IsDerivedBelow pairs (Derived ng hints) = NamesBelow pairs ng

-- only derived steps that name these pairs were added
pub record Grows (pairs : ℕ) (old new : List Step) : Type 0 where
  pub added : List Step
  pub joined : new ≡ old ++ added
  pub derived : All (IsDerivedBelow pairs) added

-- the no-goods are there with their numbers, and no other piece is barred
pub record Adds (pairs : ℕ) (ngs more : List (List Choice)) : Type 0 where
  pub kept : (k : ℕ) → k < length ngs → (k < length more) × (slice_index_or more k [] ≡ slice_index_or ngs k [])
  pub bars : (p : List Side) → length p ≡ pairs → IsBarred more p → IsBarred ngs p

pub record Grown (pairs : ℕ) (old new : List Step) : Type 0 where
  pub grows : Grows pairs old new
  pub adds : Adds pairs (no_goods old) (no_goods new)
  pub named : All (NamesBelow pairs) (no_goods new)
