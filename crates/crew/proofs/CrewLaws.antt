-- The reaches and passes of a run's workers.
use Rattle.std.proofs.Common.{ℕ, ◌<◌, ◌≡◌, ◌∙◌, sym, subst, List, [], ◌∷◌, length, get_or}
use Rattle.std.specs.Prelude.{All, remove}
use Rattle.std.proofs.lemmas.List.Elements.{All-from_get_or, All-get_or, All-tail, All-weaker}
use Rattle.lpcc_case.specs.Instance.{Instance}
use Rattle.play.specs.declared.event.Options.{Options}
use Rattle.cut_pool.specs.Reaches.{ReachView}
use Rattle.cut_pool.specs.Shelves.{IsNewReach}
use Rattle.best.specs.Passes.{IsNewPassOf, IsPassOf}
use Rattle.best.specs.declared.passes.Best.{Best}
use Rattle.best.specs.declared.passes.BestPass.{BestPass}
use Rattle.desk.specs.Desks.{DeskView, IsNewDesk}
use Rattle.crew.specs.Crews.{AreReachesOf}

any_reach : Instance → ReachView
any_reach a = record { worker = 0; case = a; spare = 0; published = []; lanes = [] }

pub reaches_of : (a : Instance) (o : Options) (d : DeskView) (rs : List ReachView) → IsNewDesk a o d → length rs ≡ o.workers → ((k : ℕ) (v : ReachView) → k < o.workers → IsNewReach d.shelf k (get_or rs k v)) → AreReachesOf a rs
reaches_of a o d rs new count each =
    All-from_get_or (λ r. r.case ≡ a) rs (any_reach a) (λ k inside.
    (each k (any_reach a) (subst (λ (n : ℕ). k < n) count inside)).fits.case ∙ new.shelf)

pub passes_of : {T : Type 0} (b : Best T) (ps : List (BestPass T)) → All (IsNewPassOf b) ps → All (IsPassOf b) ps
passes_of b ps new = All-weaker (IsNewPassOf b) (IsPassOf b) (λ p h. h.0) ps new

pub all_removed : {X : Type 0} (P : X → Type 0) (xs ys : List X) → ys ≡ remove xs 0 → All P xs → All P ys
all_removed P xs ys e all = subst (All P) (sym e) (all_rest P xs all)
  where
    all_rest : {X : Type 0} (P : X → Type 0) (xs : List X) → All P xs → All P (remove xs 0)
    all_rest P [] all = all
    all_rest P (x ∷ xs) all = All-tail P x xs all

pub first_all : {X : Type 0} (P : X → Type 0) (xs : List X) (x : X) → x ≡ get_or xs 0 x → 0 < length xs → All P xs → P x
first_all P xs x e some all = subst P (sym e) (All-get_or P xs 0 x some all)
