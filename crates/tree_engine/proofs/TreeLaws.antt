-- A tree that holds shows its verdict.
use Rattle.std.proofs.Common.{inl, inr, ℕ, ◌<◌, ◌≡◌, sym, ap, ◌∙◌, ℤ, pos, ◌+ℤ◌, ◌*ℤ◌, List, [], get_or, length, Option, Some, None}
use Rattle.std.specs.Prelude.{All, Contains, unsigned_abs}
use Rattle.std.proofs.lemmas.List.Elements.{All-contains, All-nil}
use Rattle.lp_nums.specs.Fractions.{Fraction, SameValue}
use Rattle.nogoods.specs.declared.choice.Choice.{Choice}
use Rattle.nogoods.specs.declared.choice.Side.TheVariants.{A, B}
use Rattle.sense.specs.Senses.{signed}
use Rattle.lpcc_case.specs.Instance.{Instance, chosen}
use Rattle.lpcc_case.specs.Points as points
use Rattle.lpcc_case.specs.Points.{IsComplementary, IsFeasible, IsTight, IsTightAt, MeetsAll}
use Rattle.lpcc_case.specs.Pieces.{Improves}
use Rattle.lpcc_case.specs.Values.{IsValue}
use Rattle.lpcc_case.specs.Verdicts.{HasValue, IsTrueOf}
use Rattle.lpcc_case.specs.declared.point.Point.{Point}
use Rattle.lpcc_case.specs.declared.verdict.Verdict.{Verdict}
use Rattle.lpcc_case.specs.declared.verdict.Verdict.TheVariants.{Optimal, Infeasible, Unbounded}
use Rattle.lpcc_case.proofs.Meanings.{means_one}
use Rattle.cuts.specs.declared.cut.Cut.{Cut}
use Rattle.cuts.specs.Cuts.{IsActive, no_good_of}
use Rattle.cuts.proofs.CutLaws.{cut_is_true, nothing_lower}
use Rattle.cert_check.proofs.PointLines.{abs_of_positive}
use Rattle.reasons.specs.Reasons.{IsActiveAgainst}
use Rattle.tree_engine.specs.declared.tree.Tree.{Tree}
use Rattle.tree_engine.specs.declared.tree.Tree.TheVariants.{Leaf, Split'}
use Rattle.tree_engine.specs.Bests.{IsBest, IsCandidate, IsNoHigher, IsVerdictOf}
use Rattle.tree_engine.specs.Closings.{KeepsActive}
use Rattle.tree_engine.specs.Paths.{HasTightSide, choice_of, with_choice}
use Rattle.tree_engine.specs.Trees.{Holds}
use Rattle.tree_engine.proofs.BestLaws.{active_of, active_of_none, lower_keeps}
use Rattle.tree_engine.proofs.PathLaws.{all_with}

-- ---- a feasible point goes down to a leaf

tight_among : (a : Instance) (p : points.Point a.columns) (tight fewer : List Choice) → All (Contains tight) fewer → IsTightAt a p tight → IsTightAt a p fewer
tight_among a p tight fewer within there_is i d lt = All-contains (λ c. IsTight p (chosen a c)) tight (get_or fewer i d) there_is (within i d lt)

pub one_side : (a : Instance) (p : points.Point a.columns) (k : ℕ) → k < length a.pairs → IsComplementary a p → HasTightSide a p k
one_side a p k inside complementary = complementary k (length a.constraints, length a.constraints) inside

down : (a : Instance) (best : Option Point) (path : List Choice) (t : Tree) (now : Option (points.Point a.columns)) (p : points.Point a.columns) → ((c : Cut) → IsActiveAgainst c best → IsActive a c now) → Holds a best path t → IsFeasible a p → IsTightAt a p path → Improves a p now → ⊥
down a best path (Leaf c) now p active holds feasible tight improves =
    nothing_lower a c now p (cut_is_true a c holds.passes) (active c holds.active) feasible.met (tight_among a p path (no_good_of c) holds.choices tight) improves
down a best path (Split' pair x1 x x2 y) now p active holds feasible tight improves =
    elim (one_side a p pair holds.0.0 feasible.complementary) [
      | inl first ↦ down a best (with_choice (choice_of pair A) path) x now p active holds.1 feasible (all_with (λ c. IsTight p (chosen a c)) (choice_of pair A) path first tight) improves
      | inr second ↦ down a best (with_choice (choice_of pair B) path) y now p active holds.2 feasible (all_with (λ c. IsTight p (chosen a c)) (choice_of pair B) path second tight) improves
    ]

nothing_tight : (a : Instance) (p : points.Point a.columns) → IsTightAt a p []
nothing_tight a p = All-nil (λ c. IsTight p (chosen a c))

value_moves : (a : Instance) (p : points.Point a.columns) (z d : ℤ) (value : Fraction) (denominator : ℕ) → points.cost_at a p ≡ z → pos p.d ≡ d → pos denominator ≡ value.den → SameValue value (record { num = signed a.sense (z +ℤ (a.offset *ℤ d)); den = a.scale *ℤ d }) → HasValue a p value.num denominator
value_moves a p z d value denominator cost same den is = rw (cost, same, den) (sym is)

optimal : (a : Instance) (q : Point) (t : Tree) (value : Fraction) → IsCandidate a q → Holds a (Some q) [] t → IsValue a q.z q.d value → IsTrueOf a (Optimal value)
optimal a q t value best holds value_is =
    let meant = means_one a q best.of.fits in
    let p = meant.0 in
    let cost : points.cost_at a p ≡ q.z = ap (λ x. Rattle.lp_base.specs.Sums.dot a.cost x) meant.1.0 ∙ sym best.of.cost in
    let den = abs_of_positive value.den value_is.lowest.positive in
    let lowest = λ (r : points.Point a.columns) (feasible : IsFeasible a r) (lower : points.IsLower a r p).
    down a (Some q) [] t (Some p) r (λ c active. active_of a c q p best.of meant.1 active) holds feasible (nothing_tight a r) lower in
    (unsigned_abs value.den, den.0, (p, den.1, best.feasible p meant.1, value_moves a p q.z q.d value (unsigned_abs value.den) cost meant.1.1 den.0 value_is.same, lowest))

pub tree_true : (a : Instance) (best : Option Point) (t : Tree) (v : Verdict) → IsBest a best → Holds a best [] t → IsVerdictOf a best v → IsTrueOf a v
tree_true a (Some q) t (Optimal value) best holds is = optimal a q t value best holds is
tree_true a (Some q) t Infeasible best holds is = absurd is
tree_true a (Some q) t Unbounded best holds is = absurd is
tree_true a None t (Optimal value) best holds is = absurd is
tree_true a None t Infeasible best holds is = λ p feasible. down a None [] t None p (λ c active. active_of_none a c active) holds feasible (nothing_tight a p) tt
tree_true a None t Unbounded best holds is = absurd is

-- ---- a lower best point

pub kept : (a : Instance) (old new : Option Point) (path : List Choice) (t : Tree) → KeepsActive a old new → Holds a old path t → Holds a new path t
kept a old new path (Leaf c) keeps holds = record { passes = holds.passes; choices = holds.choices; active = keeps c holds.passes holds.active }
kept a old new path (Split' pair x1 x x2 y) keeps holds =
    (holds.0, kept a old new (with_choice (choice_of pair A) path) x keeps holds.1, kept a old new (with_choice (choice_of pair B) path) y keeps holds.2)

pub kept_lower : (a : Instance) (old new : Option Point) (path : List Choice) (t : Tree) → IsBest a old → IsBest a new → IsNoHigher new old → Holds a old path t → Holds a new path t
kept_lower a old new path t hold hnew low holds = kept a old new path t (lower_keeps a old new hold hnew low) holds
