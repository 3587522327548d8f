-- The starts of a log bar what its steps bar.
use Rattle.std.proofs.Common.{inl, inr, ℕ, zero, suc, ◌≡◌, refl, ap, arith, List, [], ◌∷◌, ◌++◌, length, Some}
use Rattle.std.specs.Prelude.{All, Contains, slice_get}
use Rattle.std.proofs.lemmas.List.Elements.{All-contains}
use Rattle.std.proofs.lemmas.Option.{slice_get_within}
use Rattle.nogoods.specs.declared.choice.Choice.{Choice}
use Rattle.nogoods.specs.declared.choice.Side.{Side}
use Rattle.nogoods.specs.Pieces.{Bars}
use Rattle.derivation.specs.declared.step.Step.{Step}
use Rattle.derivation.specs.declared.step.Step.TheVariants.{Start, Derived}
use Rattle.derivation.specs.HintRuns.{NamesBelow}
use Rattle.derivation.specs.Logs.{IsLog, StartsName, IsBarredByStart, no_goods}
use Rattle.derivation.proofs.LogLaws.{steps-by_start, empty-by_start}
use Rattle.search.specs.FirstPieces.{IsBarred}
use Rattle.play.specs.Truth.{starts_of}
use Rattle.play.proofs.ListLaws.{there, front_or_rest, any_more, any_of}

pub starts_start : (log : List Step) (ng : List Choice) → starts_of (log ++ Start ng ∷ []) ≡ starts_of log ++ ng ∷ []
starts_start [] ng = refl
starts_start (Start n ∷ log) ng = ap (λ l. n ∷ l) (starts_start log ng)
starts_start (Derived n hints ∷ log) ng = starts_start log ng

pub starts_derived : (log : List Step) (ng : List Choice) (hs : List ℕ) → starts_of (log ++ Derived ng hs ∷ []) ≡ starts_of log
starts_derived [] ng hs = refl
starts_derived (Start n ∷ log) ng hs = ap (λ l. n ∷ l) (starts_derived log ng hs)
starts_derived (Derived n hints ∷ log) ng hs = starts_derived log ng hs

start_in : (log : List Step) (k : ℕ) (ng : List Choice) → slice_get log k ≡ Some (Start ng) → Contains (starts_of log) ng
start_in [] k ng e = absurd (omega (arith, slice_get_within [] k (Start ng) e))
start_in (Start n ∷ log) zero ng e = let same : n ≡ ng = cc in (0, omega arith, same)
start_in (Derived n hints ∷ log) zero ng e = absurd (cc)
start_in (Start n ∷ log) (suc k) ng e = there n (starts_of log) ng (start_in log k ng e)
start_in (Derived n hints ∷ log) (suc k) ng e = start_in log k ng e

pub starts_among : (log : List Step) (ng : List Choice) → Contains (starts_of log) ng → Contains (no_goods log) ng
starts_among [] ng c = c
starts_among (Start n ∷ log) ng c = elim (front_or_rest n (starts_of log) ng c) [
  | inl e ↦ (0, omega arith, e)
  | inr rest ↦ there n (no_goods log) ng (starts_among log ng rest)
]
starts_among (Derived n hints ∷ log) ng c = there n (no_goods log) ng (starts_among log ng c)

starts_name : (n : ℕ) (log : List Step) → All (NamesBelow n) (no_goods log) → StartsName n log
starts_name n log named k ng e = All-contains (NamesBelow n) (no_goods log) ng named (starts_among log ng (start_in log k ng e))

by_start : (log : List Step) (sides : List Side) → IsBarredByStart log sides → IsBarred (starts_of log) sides
by_start log sides b = any_of (λ ng. Bars ng sides) (starts_of log) b.1 (start_in log b.0 b.1 b.2) b.3

pub barred_by_starts : (log : List Step) (sides : List Side) → IsLog log → All (NamesBelow (length sides)) (no_goods log) → IsBarred (no_goods log) sides → IsBarred (starts_of log) sides
barred_by_starts log sides is named barred = by_start log sides (steps-by_start log sides is (starts_name (length sides) log named) barred)

pub barred_by_steps : (log : List Step) (sides : List Side) → IsBarred (starts_of log) sides → IsBarred (no_goods log) sides
barred_by_steps log sides barred = any_more (λ ng. Bars ng sides) (starts_of log) (no_goods log) (λ ng c. starts_among log ng c) barred

pub barred_by_empty : (log : List Step) (sides : List Side) → IsLog log → All (NamesBelow (length sides)) (no_goods log) → Contains (no_goods log) [] → IsBarred (starts_of log) sides
barred_by_empty log sides is named empty = by_start log sides (empty-by_start log sides is (starts_name (length sides) log named) empty)
