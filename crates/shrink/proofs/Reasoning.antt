-- The reasons found so far: one more, those that last, and all of them.
use Rattle.std.proofs.Common.{◌≡◌, ℕ, zero, suc, ◌<◌, List, [], ◌∷◌, length, set, ◌⊎◌, inl, inr, Option, Some, refl, sym, ap, ◌∙◌, arith, subst}
use Rattle.std.specs.Prelude.{All, Contains, IsTrue, slice_get}
use Rattle.std.specs.List.{remove}
use Rattle.std.proofs.lemmas.List.{length-set}
use Rattle.std.proofs.lemmas.List.Edits.{length-remove}
use Rattle.std.proofs.lemmas.List.Elements.{All-contains, All-weaker}
use Rattle.std.proofs.lemmas.Option.{slice_get-map}
use Rattle.nogoods.specs.declared.choice.Choice.{Choice}
use Rattle.nogoods.specs.Choices.{pairs_ascend}
use Rattle.lpcc_case.specs.Instance.{Instance}
use Rattle.lpcc_case.specs.declared.point.Point.{Point}
use Rattle.cuts.specs.declared.cut.Cut.{Cut}
use Rattle.cuts.specs.declared.reason.Reason.{Reason}
use Rattle.cuts.specs.declared.reason.Reason.TheVariants as reason
use Rattle.cuts.specs.Cuts.{Passes, no_good_of}
use Rattle.reasons.specs.Reasons.{AreReasons, IsActiveAgainst, IsTrueReason}
use Rattle.shrink.specs.Trials.{AreCarried, AreFound, AreKept, IsLasting, IsSmaller, reason_kept}
use Rattle.shrink.proofs.Removing.{others_within, removed_within}
use Rattle.shrink.proofs.Systems.{point_among, ray_among}

set_cases : {X : Type 0} (xs : List X) (i : ℕ) (y z : X) (k : ℕ) → slice_get (set xs i y) k ≡ Some z → (slice_get xs k ≡ Some z) ⊎ ((k ≡ i) × (y ≡ z))
set_cases [] i y z k e = inl e
set_cases (x ∷ xs) zero y z zero e = let same : y ≡ z = cc in inr (refl, same)
set_cases (x ∷ xs) zero y z (suc k) e = inl e
set_cases (x ∷ xs) (suc i) y z zero e = inl e
set_cases (x ∷ xs) (suc i) y z (suc k) e = elim (set_cases xs i y z k e) [ inl h ↦ inl h | inr h ↦ inr (ap suc h.0, h.1) ]

pub found_more : (a : Instance) (budget : ℕ) (limit : Option Point) (ng : List Choice) (found : List (Option Reason)) (k : ℕ) (r : Reason) → AreFound a budget limit ng found → IsTrueReason a budget limit (remove ng k) r → AreFound a budget limit ng (set found k (Some r))
found_more a budget limit ng found k r before here = record {
  size = length-set found k (Some r) ∙ before.size;
  reasons = λ j s at. elim (set_cases found k (Some r) (Some s) j at) [
    | inl old ↦ before.reasons j s old
    | inr new ↦
        let same : r ≡ s = cc in
        subst (λ i. IsTrueReason a budget limit (remove ng i) s) (sym new.0) (subst (IsTrueReason a budget limit (remove ng k)) same here)
  ];
}

lasting_among : (a : Instance) (budget : ℕ) (limit : Option Point) (tight fewer : List Choice) (r : Reason) → IsLasting r → All (Contains tight) fewer → IsTrueReason a budget limit tight r → IsTrueReason a budget limit fewer r
lasting_among a budget limit tight fewer (reason.Below q) lasts within holds = (point_among a tight fewer q within holds.0, holds.1)
lasting_among a budget limit tight fewer (reason.Unbounded q ray) lasts within holds = (point_among a tight fewer q within holds.0, ray_among a tight fewer ray within holds.1)
lasting_among a budget limit tight fewer (reason.Wide at) lasts within holds = absurd lasts
lasting_among a budget limit tight fewer (reason.Spent at) lasts within holds = absurd lasts

pub found_again : (a : Instance) (budget : ℕ) (limit : Option Point) (old new : List Choice) (found made : List (Option Reason)) → AreFound a budget limit old found → AreCarried old new found made → All (Contains old) new → IsTrue (pairs_ascend new) → AreFound a budget limit new made
found_again a budget limit old new found made before carried within rises = record {
  size = carried.size;
  reasons = λ k r at.
      let from = carried.origin k r at in
      lasting_among a budget limit (remove old from.1) (remove new k) r from.0 (others_within old new from.1 k from.2 rises within from.3 from.4) (before.reasons from.1 r from.5);
}

pub all_found : (a : Instance) (budget : ℕ) (limit : Option Point) (ng : List Choice) (found : List (Option Reason)) (kept : List (Choice × Reason)) → AreFound a budget limit ng found → AreKept ng found kept → AreReasons a budget limit ng kept
all_found a budget limit ng found kept before each = record {
  names = each.names;
  reasons = λ k x at.
      let there : slice_get found k ≡ Some (Some x.1) = ap (λ (rs : List (Option Reason)). slice_get rs k) (sym each.reasons) ∙ slice_get-map reason_kept kept k ∙ ap (λ (o : Option (Choice × Reason)). Rattle.std.specs.Option.option_map reason_kept o) at in
      before.reasons k x.1 there;
}

-- ---- a smaller cut

pub smaller_choices : (a : Instance) (limit : Option Point) (ng : List Choice) (cut : Cut) → IsSmaller a limit ng cut → All (Contains ng) (no_good_of cut)
smaller_choices a limit ng cut (k, lt, within) = All-weaker (Contains (remove ng k)) (Contains ng) (λ x h. removed_within ng k x lt h) (no_good_of cut) within.choices

pub smaller_fewer : (a : Instance) (limit : Option Point) (ng : List Choice) (cut : Cut) → IsSmaller a limit ng cut → length (no_good_of cut) < length ng
smaller_fewer a limit ng cut (k, lt, within) = let size = length-remove ng k lt in let few = within.fewer in omega arith

-- the invariant behind a drop
pub record Stands (a : Instance) (budget : ℕ) (limit : Option Point) (first : List Choice) (cut : Cut) (found : List (Option Reason)) : Type 0 where
  pub passes : Passes a cut
  pub active : IsActiveAgainst cut limit
  pub choices : All (Contains first) (no_good_of cut)
  pub so_far : AreFound a budget limit (no_good_of cut) found

pub stands_on : (a : Instance) (budget : ℕ) (limit : Option Point) (first ng new : List Choice) (cut smaller : Cut) (found made : List (Option Reason))
    → ng ≡ no_good_of cut → new ≡ no_good_of smaller → All (Contains first) (no_good_of cut) → AreFound a budget limit ng found → IsSmaller a limit ng smaller → AreCarried ng new found made → IsTrue (pairs_ascend new) → Stands a budget limit first smaller made
stands_on a budget limit first ng new cut smaller found made e f choices before less carried rises =
    let within = smaller_choices a limit ng smaller less in
    let again : AreFound a budget limit new made = found_again a budget limit ng new found made before carried (subst (λ (xs : List Choice). All (Contains ng) xs) (sym f) within) rises in
    let old : All (Contains first) ng = subst (λ (xs : List Choice). All (Contains first) xs) (sym e) choices in
    record {
      passes = less.2.passes;
      active = less.2.active;
      choices = All-weaker (Contains ng) (Contains first) (λ x h. All-contains (Contains first) ng x old h) (no_good_of smaller) within;
      so_far = subst (λ (xs : List Choice). AreFound a budget limit xs made) f again;
    }
