-- Starting steps, and the steps that are reached.
use Rattle.std.proofs.Common.{inl, inr, ℕ, zero, suc, ◌<◌, ◌≤◌, ◌≡◌, refl, sym, ap, ◌∙◌, subst, arith, List, [], ◌∷◌, ◌++◌, length, get_or, map, take}
use Rattle.std.specs.Prelude.{Contains}
use Rattle.std.proofs.lemmas.Bool.{cases_lt}
use Rattle.nogoods.specs.declared.choice.Choice.{Choice}
use Rattle.derivation.specs.declared.step.Step.{Step}
use Rattle.derivation.specs.declared.step.Step.TheVariants.{Start, Derived}
use Rattle.trimming.specs.Trimmed.{AreReached, IsFirstEmpty, IsReached, step_at}
use Rattle.cert_parts.specs.Lines.{starts_of}
use Rattle.cert_parts.proofs.Lists.{same_numbers}

pub starts_start : (log : List Step) (ng : List Choice) → starts_of (log ++ Start ng ∷ []) ≡ starts_of log ++ ng ∷ []
starts_start [] ng = refl
starts_start (Start n ∷ log) ng = ap (λ l. n ∷ l) (starts_start log ng)
starts_start (Derived n hints ∷ log) ng = starts_start log ng

pub starts_derived : (log : List Step) (ng : List Choice) (hs : List ℕ) → starts_of (log ++ Derived ng hs ∷ []) ≡ starts_of log
starts_derived [] ng hs = refl
starts_derived (Start n ∷ log) ng hs = ap (λ l. n ∷ l) (starts_derived log ng hs)
starts_derived (Derived n hints ∷ log) ng hs = starts_derived log ng hs

pub start_at : (log : List Step) (p : ℕ) (ng : List Choice) → p < length log → step_at log p ≡ Start ng → (length (starts_of (take p log)) < length (starts_of log)) × (get_or (starts_of log) (length (starts_of (take p log))) [] ≡ ng)
start_at [] p ng inside e = absurd (omega (arith, inside))
start_at (Start n ∷ log) zero ng inside e = let same : n ≡ ng = cc in (omega arith, same)
start_at (Derived n hints ∷ log) zero ng inside e = absurd (cc)
start_at (Start n ∷ log) (suc p) ng inside e = let rest = start_at log p ng (omega (arith, inside)) e in (omega (arith, rest.0), rest.1)
start_at (Derived n hints ∷ log) (suc p) ng inside e = start_at log p ng (omega (arith, inside)) e

first_same : (log : List Step) (e f : ℕ) → IsFirstEmpty log e → IsFirstEmpty log f → e ≡ f
first_same log e f x y = elim (cases_lt e f) [
  | inl below ↦ absurd (y.first e below x.empty)
  | inr past ↦ elim (cases_lt f e) [
    | inl below ↦ absurd (x.first f below y.empty)
    | inr up ↦ omega (arith, past, up)
  ]
]

-- the steps that the first empty step reaches are determined
pub reached_same : (log : List Step) (xs ys : List ℕ) → AreReached log xs → AreReached log ys → xs ≡ ys
reached_same log xs ys x y =
    let P : ℕ → ℕ → Type 0 = λ e k. IsReached log e k in
    let first = first_same log x.first y.first x.empty y.empty in
    same_numbers xs ys x.ascending y.ascending
    (λ k c. (y.reached k).1 (subst (λ e. P e k) first ((x.reached k).0 c)))
    (λ k c. (x.reached k).1 (subst (λ e. P e k) (sym first) ((y.reached k).0 c)))
