-- A log stays one where a step that follows is added.
use Rattle.std.proofs.Common.{inl, inr, ℕ, ◌<◌, ◌≡◌, sym, ◌∙◌, subst, arith, List, [], ◌∷◌, ◌++◌, length, get_or, take, Some}
use Rattle.std.specs.Prelude.{slice_get}
use Rattle.std.proofs.lemmas.Bool.{cases_lt}
use Rattle.std.proofs.lemmas.List.{length-append, get_or_append_left, get_or_at, take-append-le, take_at}
use Rattle.std.proofs.lemmas.Option.{slice_get_within, slice_get-get_or, get_or_from_slice_get}
use Rattle.derivation.specs.declared.step.Step.{Step}
use Rattle.derivation.specs.Logs.{Follows, IsLog, no_goods}

before : (log : List Step) (s step : Step) (k : ℕ) → IsLog log → k < length log → slice_get (log ++ s ∷ []) k ≡ Some step → Follows (no_goods (take k (log ++ s ∷ []))) step
before log s step k is here found =
    let same : get_or log k step ≡ step = sym (get_or_append_left log (s ∷ []) step k here) ∙ get_or_from_slice_get (log ++ s ∷ []) k step step found in
    let Q : Step → Type 0 = λ x. Follows (no_goods (take k log)) x in
    rw (take-append-le k log (s ∷ []) (omega arith)) (subst Q same (is k (get_or log k step) (slice_get-get_or log k step here)))

last : (log : List Step) (s step : Step) (k : ℕ) → Follows (no_goods log) s → length log ≡ k → slice_get (log ++ s ∷ []) k ≡ Some step → Follows (no_goods (take k (log ++ s ∷ []))) step
last log s step k follows size found =
    let same : s ≡ step = sym (get_or_at log s [] step k size) ∙ get_or_from_slice_get (log ++ s ∷ []) k step step found in
    let Q : Step → Type 0 = λ x. Follows (no_goods log) x in
    rw (take_at log (s ∷ []) k size) (subst Q same follows)

pub grown : (log : List Step) (s : Step) → IsLog log → Follows (no_goods log) s → IsLog (log ++ s ∷ [])
grown log s is follows k step found =
    let inside = slice_get_within (log ++ s ∷ []) k step found in
    let size = length-append log (s ∷ []) in
    elim (cases_lt k (length log)) [
      | inl here ↦ before log s step k is here found
      | inr past ↦ last log s step k follows (omega arith) found
    ]
