-- The derivation that a tree makes: its leaves' no-goods, and their resolvents at its splits.
use Rattle.std.specs.Prelude.{◌+◌, ℕ, not, ◌||◌, if◌then◌else◌, List, [], ◌∷◌, ◌++◌, filter, length}
use Rattle.nogoods.specs.declared.choice.Choice.{Choice}
use Rattle.nogoods.specs.declared.choice.Side.TheVariants.{A, B}
use Rattle.cuts.specs.declared.cut.Cut.{Cut}
use Rattle.cuts.specs.Cuts.{no_good_of}
use Rattle.derivation.specs.declared.step.Step.{Step}
use Rattle.derivation.specs.declared.step.Step.TheVariants.{Start, Derived}
use Rattle.derivation.specs.HintRuns.{is_assumed}
use Rattle.tree_engine.specs.declared.tree.Tree.{Tree}
use Rattle.tree_engine.specs.declared.tree.Tree.TheVariants.{Leaf, Split'}
use Rattle.tree_engine.specs.Paths.{choice_of, first_side, second_side}

-- the cuts at the leaves, side A of a split first
abbrev pub leaves : Tree → List Cut
leaves (Leaf cut) = cut ∷ []
leaves (Split' pair p x q y) = leaves x ++ leaves y

-- steps of a log, the number of the step that stands for a tree, and its no-good
pub record Refutation : Type 0 where
  pub steps : List Step
  pub at : ℕ
  pub ng : List Choice

abbrev pub behind : List Step → Refutation → Refutation
behind steps r = record { steps = steps ++ r.steps; at = r.at; ng = r.ng }

-- the choices of the path that are in one of two no-goods
abbrev pub resolvent : List Choice → List Choice → List Choice → List Choice
resolvent path u v = filter (λ c. is_assumed u c || is_assumed v c) path

-- Step i with the no-good u stands for side A of a pair, step j with v for side B, and there are n steps. Where one of
-- them lacks its side, it stands for both, that of side A where both lack it; else their resolvent does, a new step.
abbrev pub resolution : ℕ → List Choice → ℕ → ℕ → List Choice → ℕ → List Choice → Refutation
resolution n path pair i u j v =
    if not (is_assumed u (choice_of pair A)) then record { steps = []; at = i; ng = u }
    else (if not (is_assumed v (choice_of pair B)) then record { steps = []; at = j; ng = v }
    else record { steps = Derived (resolvent path u v) (i ∷ j ∷ []) ∷ []; at = n; ng = resolvent path u v })

abbrev pub resolved : ℕ → List Choice → ℕ → Refutation → Refutation → Refutation
resolved n path pair s t = behind (s.steps ++ t.steps) (resolution (n + length s.steps + length t.steps) path pair s.at s.ng t.at t.ng)

abbrev pub resolved_with : ℕ → List Choice → ℕ → Refutation → (ℕ → Refutation) → Refutation
resolved_with n path pair s rest = resolved n path pair s (rest (n + length s.steps))

-- the steps of a tree at a path, behind n steps: that of each leaf, and that of a split behind those of both sides
abbrev pub refutation : ℕ → List Choice → Tree → Refutation
refutation n path (Leaf cut) = record { steps = Start (no_good_of cut) ∷ []; at = n; ng = no_good_of cut }
refutation n path (Split' pair p x q y) =
    resolved_with n path pair (refutation n (first_side pair path) x) (λ m. refutation m (second_side pair path) y)

-- the log of a tree
abbrev pub log_of : Tree → List Step
log_of tree = (refutation 0 [] tree).steps
