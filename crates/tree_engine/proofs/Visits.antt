-- What the program of a node shows.
use Rattle.std.proofs.Common.{ℕ, ◌≡◌, sym, ◌∙◌, subst, ℤ, pos, Bool, false, IsTrue, List, [], Option, Some}
use Rattle.std.specs.Prelude.{All, Contains, ◌↔◌}
use Rattle.std.proofs.lemmas.List.Elements.{All-contains_itself, All-from_recursion, recursion_from_All}
use Rattle.nogoods.specs.declared.choice.Choice.{Choice}
use Rattle.lpcc_case.specs.Instance.{Instance}
use Rattle.lpcc_case.specs.Points as points
use Rattle.lpcc_case.specs.Points.{IsComplementary, IsFeasible, IsTightAt, MeetsAll}
use Rattle.lpcc_case.specs.NarrowPoints.{Means}
use Rattle.lpcc_case.specs.declared.point.Point.{Point}
use Rattle.cuts.specs.declared.cut.Cut.{Cut}
use Rattle.cuts.specs.declared.cut.Cut.TheVariants as cut_of
use Rattle.cuts.specs.Cuts.{Passes}
use Rattle.walks.specs.Duals.{blamed}
use Rattle.walks.specs.Ends.{IsPointAt}
use Rattle.walks.proofs.Blames.{blamed_keeps}
use Rattle.lex_simplex.specs.declared.answer.LpAnswer.{LpAnswer}
use Rattle.lex_simplex.specs.declared.answer.LpAnswer.TheVariants as lp
use Rattle.lex_simplex.specs.Answers.{IsAnswer, IsPointCutOf, IsRayCutOf}
use Rattle.reasons.specs.Reasons.{Has, IsActiveAgainst, IsUnder}
use Rattle.tree_engine.specs.Bests.{IsBest, IsCandidate}
use Rattle.tree_engine.specs.Nodes.{IsOpen}
use Rattle.tree_engine.specs.Paths.{IsFirstFree}
use Rattle.tree_engine.specs.Runs.{IsSplitAt}
use Rattle.tree_engine.specs.Trees.{IsLeafCut}
use Rattle.tree_engine.proofs.BestLaws.{bound_active, bound_active_there}

-- ---- what the numbers of a point mean

same_numbers : (a : Instance) (q : Point) (p r : points.Point a.columns) → Means q p → Means q r → r.x ≡ p.x
same_numbers a q p r mp mr = mr.0 ∙ sym mp.0

same_denominator : (a : Instance) (q : Point) (p r : points.Point a.columns) → Means q p → Means q r → pos r.d ≡ pos p.d
same_denominator a q p r mp mr = mr.1 ∙ sym mp.1

pub met_for : (a : Instance) (tight : List Choice) (q : Point) (p : points.Point a.columns) → IsPointAt a tight q → Means q p → MeetsAll a p
met_for a tight q p at means i d lt = rw (same_numbers a q at.point p at.means means, same_denominator a q at.point p at.means means) (at.met i d lt)

pub tight_for : (a : Instance) (tight : List Choice) (q : Point) (p : points.Point a.columns) → IsPointAt a tight q → Means q p → IsTightAt a p tight
tight_for a tight q p at means i d lt = rw (same_numbers a q at.point p at.means means, same_denominator a q at.point p at.means means) (at.tight_there i d lt)

pub candidate : (a : Instance) (path : List Choice) (q : Point) → IsPointAt a path q → Has a q (IsComplementary a) → IsCandidate a q
candidate a path q at complementary = record {
  of = at.numbers;
  feasible = λ p means. record { met = met_for a path q p at means; complementary = complementary p means };
}

-- ---- cuts of leaves

blamed_within : (a : Instance) (mult : List (ℕ × ℤ)) (path : List Choice) → All (Contains path) (blamed a mult path)
blamed_within a mult path =
    All-from_recursion (Contains path) (blamed a mult path) (blamed_keeps (Contains path) a mult [] path (recursion_from_All (Contains path) path (All-contains_itself path)))

pub ray_leaf : (a : Instance) (best : Option Point) (path : List Choice) (c : Cut) → IsRayCutOf a path c → IsLeafCut a best path c
ray_leaf a best path c of =
    let made : IsLeafCut a best path (cut_of.Ray (blamed a of.mult path) of.mult) = record {
      passes = subst (Passes a) of.cut_is of.passes;
      choices = blamed_within a of.mult path;
      active = tt;
    } in
    subst (IsLeafCut a best path) (sym of.cut_is) made

point_leaf : (a : Instance) (best : Option Point) (path : List Choice) (q : Point) (c : Cut) → (of : IsPointCutOf a path q c) → IsActiveAgainst (cut_of.Point (blamed a of.mult path) of.mult of.e of.v) best → IsLeafCut a best path c
point_leaf a best path q c of active =
    let made : IsLeafCut a best path (cut_of.Point (blamed a of.mult path) of.mult of.e of.v) = record {
      passes = subst (Passes a) of.cut_is of.passes;
      choices = blamed_within a of.mult path;
      active = active;
    } in
    subst (IsLeafCut a best path) (sym of.cut_is) made

above_one : (a : Instance) (path : List Choice) (q : Point) (c : Cut) → (of : IsPointCutOf a path q c) → Passes a (cut_of.Point (blamed a of.mult path) of.mult of.e of.v)
above_one a path q c of = subst (Passes a) of.cut_is of.passes

-- an optimum that is not lower than the best point
pub closed_leaf : (a : Instance) (best : Option Point) (path : List Choice) (q : Point) (c : Cut) (t : Bool) → IsBest a best → t ≡ false → IsTrue t ↔ IsUnder q best → IsPointAt a path q → IsPointCutOf a path q c → IsLeafCut a best path c
closed_leaf a best path q c t is_best e tells at of =
    point_leaf a best path q c of (bound_active a best (blamed a of.mult path) of.mult of.e of.v q is_best (above_one a path q c of).sums.0 at.numbers.fits.positive of.bound (λ under. let passed = tells.1 under in absurd (cc)))

-- an optimum that becomes the best point
pub improved_leaf : (a : Instance) (path : List Choice) (q : Point) (c : Cut) → IsPointCutOf a path q c → IsLeafCut a (Some q) path c
improved_leaf a path q c of = point_leaf a (Some q) path q c of (bound_active_there (blamed a of.mult path) of.mult of.e of.v q of.bound)

-- ---- an answer without an optimum

pub open_splits : (a : Instance) (budget : ℕ) (best : Option Point) (path : List Choice) (pair : ℕ) (answer : LpAnswer) → IsOpen answer → IsAnswer a path budget answer → IsFirstFree a path pair → IsSplitAt a budget best path pair answer
open_splits a budget best path pair (lp.Infeasible c) open_it is free = absurd open_it
open_splits a budget best path pair (lp.Optimum q c) open_it is free = absurd open_it
open_splits a budget best path pair (lp.Unbounded q ray) open_it is free = (is, free)
open_splits a budget best path pair (lp.Wide w) open_it is free = (is, free)
open_splits a budget best path pair (lp.Spent s) open_it is free = (is, free)
