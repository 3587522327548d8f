-- What trimming keeps: the steps that the first empty step reaches through hints.
use Rattle.std.specs.Prelude.{◌≡◌, ◌<◌, ◌+◌, ◌↔◌, ℕ, nat_eq, if◌then◌else◌, Contains, IsTrue, List, [], ◌∷◌, map, Some, slice_get, slice_index_or}
use Rattle.lp_base.specs.Ascending.{ascends_by}
use Rattle.derivation.specs.declared.step.Step.{Step}
use Rattle.derivation.specs.declared.step.Step.TheVariants.{Start, Derived}
use Rattle.derivation.specs.Logs.{no_goods}

-- the hints of a step
abbrev pub hints_of : Step → List ℕ
hints_of (Start ng) = []
hints_of (Derived ng hints) = hints

abbrev pub step_at : List Step → ℕ → Step
step_at log k = slice_index_or log k (Start [])

pub record IsFirstEmpty (log : List Step) (e : ℕ) : Type 0 where
  pub empty : slice_get (no_goods log) e ≡ Some []
  pub first : (k : ℕ) → k < e → slice_get (no_goods log) k ≡ Some [] → ⊥

-- from step e, over hints, to step k
abbrev pub IsPath : List Step → ℕ → List ℕ → ℕ → Type 0
IsPath log e [] k = e ≡ k
IsPath log e (h ∷ path) k = Contains (hints_of (step_at log e)) h × IsPath log h path k

abbrev pub IsReached : List Step → ℕ → ℕ → Type 0
IsReached log e k = (path : List ℕ) × IsPath log e path k

-- these are the numbers, in their order, of the steps that the first empty step reaches
pub record AreReached (log : List Step) (places : List ℕ) : Type 0 where
  pub first : ℕ
  pub empty : IsFirstEmpty log first
  pub ascending : IsTrue (ascends_by (λ k. k) places)
  pub reached : (k : ℕ) → Contains places k ↔ IsReached log first k

-- where a number stands in a list
abbrev pub place_of : List ℕ → ℕ → ℕ
place_of [] k = 0
place_of (p ∷ places) k = if nat_eq p k then 0 else place_of places k + 1

-- the step with its hints renumbered
abbrev pub with_hints : (ℕ → ℕ) → Step → Step
with_hints f (Start ng) = Start ng
with_hints f (Derived ng hints) = Derived ng (map f hints)

-- the steps of these numbers, each hint the place of its number
abbrev pub kept_steps : List Step → List ℕ → List ℕ → List Step
kept_steps log places numbers = map (λ k. with_hints (place_of places) (step_at log k)) numbers

-- the steps that the first empty step reaches and no others, in their order, with the hints renumbered
pub record IsTrimmed (log made : List Step) : Type 0 where
  pub places : List ℕ
  pub are : AreReached log places
  pub made_of : made ≡ kept_steps log places places
