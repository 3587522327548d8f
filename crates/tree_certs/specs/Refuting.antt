-- A derivation while it is made.
use Rattle.std.specs.Prelude.{◌≡◌, ◌<◌, ℕ, List, [], ◌++◌, All, Contains, IsTrue, Option, length}
use Rattle.nogoods.specs.declared.choice.Choice.{Choice}
use Rattle.nogoods.specs.Choices.{pairs_ascend}
use Rattle.lpcc_case.specs.Instance.{Instance}
use Rattle.lpcc_case.specs.Pieces.{NamesPairs}
use Rattle.lpcc_case.specs.declared.point.Point.{Point}
use Rattle.cuts.specs.declared.cut.Cut.{Cut}
use Rattle.derivation.specs.declared.step.Step.{Step}
use Rattle.derivation.specs.Logs.{no_good_of, no_goods}
use Rattle.trimming.specs.Trimmed.{step_at}
use Rattle.cert_parts.specs.Lines.{IsSoundLog}
use Rattle.tree_engine.specs.declared.tree.Tree.{Tree}
use Rattle.tree_engine.specs.Paths.{IsFree, first_side, second_side}
use Rattle.tree_certs.specs.declared.refuting.Derivation.{Derivation}
use Rattle.tree_certs.specs.Derivations.{Refutation, leaves, log_of, refutation, resolution}

abbrev pub IsSound : Instance → Option Point → Derivation → Type 0
IsSound a best d = IsSoundLog a best d.cuts d.log

abbrev pub ng_at : List Step → ℕ → List Choice
ng_at log at = no_good_of (step_at log at)

-- the step of this number has this no-good, whose choices are on the path
pub record StandsFor (path : List Choice) (log : List Step) (at : ℕ) (ng : List Choice) : Type 0 where
  pub within : at < length log
  pub read : ng_at log at ≡ ng
  pub ascending : IsTrue (pairs_ascend ng)
  pub on_path : All (Contains path) ng

-- the steps of a refutation came with these cuts, and the step of this number stands for it
pub record Refutes (a : Instance) (best : Option Point) (path : List Choice) (r : Refutation) (cuts : List Cut) (old new : Derivation) (at : ℕ) : Type 0 where
  pub sound : IsSound a best new
  pub steps : new.log ≡ old.log ++ r.steps
  pub more : new.cuts ≡ old.cuts ++ cuts
  pub number : at ≡ r.at
  pub stands : StandsFor path new.log at r.ng

abbrev pub IsRefuted : Instance → Option Point → List Choice → Tree → Derivation → Derivation → ℕ → Type 0
IsRefuted a best path tree old new at = Refutes a best path (refutation (length old.log) path tree) (leaves tree) old new at

-- steps stand for both sides of a pair that is not on the path
pub record AreSides (a : Instance) (best : Option Point) (path : List Choice) (pair : ℕ) (d : Derivation) (first second : ℕ) : Type 0 where
  pub sound : IsSound a best d
  pub named : NamesPairs a path
  pub free : IsFree a path pair
  pub one : StandsFor (first_side pair path) d.log first (ng_at d.log first)
  pub other : StandsFor (second_side pair path) d.log second (ng_at d.log second)

abbrev pub IsResolved : Instance → Option Point → List Choice → ℕ → Derivation → ℕ → ℕ → Derivation → ℕ → Type 0
IsResolved a best path pair old first second new at =
    Refutes a best path (resolution (length old.log) path pair first (ng_at old.log first) second (ng_at old.log second)) [] old new at

-- the cuts are the leaves of the tree, the log is its own and sound, and one of its no-goods is without choices
pub record IsWholeDerivation (a : Instance) (best : Option Point) (tree : Tree) (d : Derivation) : Type 0 where
  pub sound : IsSound a best d
  pub cuts : d.cuts ≡ leaves tree
  pub log : d.log ≡ log_of tree
  pub empty : Contains (no_goods d.log) []
