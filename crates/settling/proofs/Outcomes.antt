-- What the answers of a solve say of a drawn piece.
use Rattle.std.proofs.Common.{inr, ℕ, zero, suc, ◌+◌, ◌<◌, ◌≡◌, sym, ap, ◌∙◌, subst, arith, List, [], ◌∷◌, length, map, get_or}
use Rattle.std.specs.List.{AllByRecursion}
use Rattle.std.specs.Prelude.{◌≤◌, ℤ, pos, ◌*ℤ◌, ◌≤ℤ◌, All, Contains, Option, Some, None, slice_get}
use Rattle.std.proofs.lemmas.Int.{ints}
use Rattle.std.proofs.lemmas.Option.{get_or_from_slice_get, slice_get-get_or, slice_get_within}
use Rattle.std.proofs.lemmas.List.Elements.{All-nil, All-contains, All-from_recursion, recursion_from_All}
use Rattle.nogoods.specs.declared.choice.Choice.{Choice}
use Rattle.nogoods.specs.declared.choice.Side.{Side}
use Rattle.nogoods.specs.Pieces.{Bars, IsChoiceOf}
use Rattle.lpcc_case.specs.Instance.{Instance, chosen}
use Rattle.lpcc_case.specs.Points as points
use Rattle.lpcc_case.specs.Points.{IsFeasible, IsTight, IsTightAt, MeetsAll, Relates, left_side}
use Rattle.lpcc_case.specs.Pieces.{IsPiece, LiesIn, NamesPairs}
use Rattle.lpcc_case.specs.NarrowPoints.{Means}
use Rattle.lpcc_case.specs.declared.point.Point.{Point}
use Rattle.lpcc_case.specs.declared.point.Ray.{Ray}
use Rattle.lpcc_case.proofs.PieceLaws.{in_piece-feasible}
use Rattle.cuts.specs.declared.cut.Cut.{Cut}
use Rattle.cuts.specs.declared.cut.Cut.TheVariants as cut
use Rattle.cuts.specs.Cuts.{Passes, no_good_of}
use Rattle.cuts.specs.declared.reason.Reason.{Reason}
use Rattle.cuts.specs.declared.reason.Reason.TheVariants as reason
use Rattle.cuts.specs.declared.reason.WideAt.{WideAt}
use Rattle.cuts.specs.declared.reason.SpentAt.{SpentAt}
use Rattle.walks.specs.Duals.{blamed}
use Rattle.walks.specs.Ends.{IsPointAt, IsRayAt, IsSpentAt, IsWideAt}
use Rattle.walks.proofs.Blames.{blamed_keeps}
use Rattle.reasons.specs.Reasons.{AreReasons, Has, IsActiveAgainst, IsLimit, IsTrueReason, choice_kept}
use Rattle.shrink.specs.Shrinking.{IsShrunk}
use Rattle.shrink.specs.declared.shrunk.Shrunk.{Shrunk}
use Rattle.lex_simplex.specs.Answers.{IsAnswer, IsPointCutOf, IsRayCutOf}
use Rattle.lex_simplex.specs.declared.answer.LpAnswer.{LpAnswer}
use Rattle.lex_simplex.specs.declared.answer.LpAnswer.TheVariants.{Infeasible, Unbounded}
use Rattle.play.specs.declared.event.Options.{Options}
use Rattle.play.specs.declared.event.ShrinkMode.TheVariants.{Full, Off}
use Rattle.play.specs.declared.outcome.Outcome.TheVariants as outcome
use Rattle.play.specs.Points.{IsBest, choices_from, choices_of, lowered}
use Rattle.play.specs.Lawful.{KeptFits, MaySettle, PointFits, ReasonFits}
use Rattle.play.specs.Causes.{AreReasonsIn}
use Rattle.play.proofs.PointLaws.{backed_lowered}
use Rattle.play.proofs.Verdicts.{choices_bar}
use Rattle.settling.specs.Outcomes.{IsOutcomeOf}

-- ---- choices of the piece

-- a part of the piece's choices bars the piece
pub blamed_bars : (a : Instance) (mult : List (ℕ × ℤ)) (piece : List Side) → Bars (blamed a mult (choices_of piece)) piece
blamed_bars a mult piece =
    All-from_recursion (IsChoiceOf piece) (blamed a mult (choices_of piece)) (blamed_keeps (IsChoiceOf piece) a mult [] (choices_of piece) (recursion_from_All (IsChoiceOf piece) (choices_of piece) (choices_bar piece)))

cut_bars : (a : Instance) (mult : List (ℕ × ℤ)) (piece : List Side) (ng : List Choice) → ng ≡ blamed a mult (choices_of piece) → Bars ng piece
cut_bars a mult piece ng same = subst (λ l. Bars l piece) (sym same) (blamed_bars a mult piece)

pub ray_cut_bars : (a : Instance) (piece : List Side) (c : Cut) → IsRayCutOf a (choices_of piece) c → Bars (no_good_of c) piece
ray_cut_bars a piece c h = cut_bars a h.mult piece (no_good_of c) (ap no_good_of h.cut_is)

pub point_cut_bars : (a : Instance) (piece : List Side) (q : Point) (c : Cut) → IsPointCutOf a (choices_of piece) q c → Bars (no_good_of c) piece
point_cut_bars a piece q c h = cut_bars a h.mult piece (no_good_of c) (ap no_good_of h.cut_is)

pub fewer_bar : (old ng : List Choice) (piece : List Side) → All (Contains old) ng → Bars old piece → Bars ng piece
fewer_bar old ng piece among bars =
    All-from_recursion (IsChoiceOf piece) ng (each ng (recursion_from_All (Contains old) ng among))
  where
    each : (l : List Choice) → AllByRecursion (Contains old) l → AllByRecursion (IsChoiceOf piece) l
    each [] h = tt
    each (c ∷ cs) h = (All-contains (IsChoiceOf piece) old c bars h.0, each cs h.1)

-- ---- activity

ray_active : (a : Instance) (c : Cut) (mult : List (ℕ × ℤ)) (ng : List Choice) (best : Option Point) → c ≡ cut.Ray ng mult → IsActiveAgainst c best
ray_active a c mult ng best same = subst (λ x. IsActiveAgainst x best) (sym same) tt

pub ray_cut_active : (a : Instance) (piece : List Side) (c : Cut) (best : Option Point) → IsRayCutOf a (choices_of piece) c → IsActiveAgainst c best
ray_cut_active a piece c best h = ray_active a c h.mult (blamed a h.mult (choices_of piece)) best h.cut_is

at_most : (x y : ℤ) → x ≡ y → x ≤ℤ y
at_most x y same = omega (arith, ints, same)

own_active : (a : Instance) (piece : List Side) (q : Point) (c : Cut) → IsPointCutOf a (choices_of piece) q c → IsActiveAgainst c (Some q)
own_active a piece q c h = subst (λ x. IsActiveAgainst x (Some q)) (sym h.cut_is) (at_most (h.e *ℤ q.z) (h.v *ℤ q.d) h.bound)

pub point_cut_active : (a : Instance) (piece : List Side) (q : Point) (c : Cut) (old : Option Point) → IsPointCutOf a (choices_of piece) q c → IsBest a old → IsBest a (Some q) → IsActiveAgainst c (lowered old (Some q))
point_cut_active a piece q c old h old_best best = backed_lowered a c old (Some q) h.passes old_best best (inr (own_active a piece q c h))

-- ---- points

-- points that mean the same numbers
same_meaning : {n : ℕ} (P : List ℤ → ℤ → Type 0) (q : Point) (p r : points.Point n) → Means q p → Means q r → P p.x (pos p.d) → P r.x (pos r.d)
same_meaning P q p r m s h =
    subst (λ x. P x (pos r.d)) (m.0 ∙ sym s.0) (subst (λ d. P p.x d) (m.1 ∙ sym s.1) h)

abbrev meets_by : (a : Instance) → List ℤ → ℤ → Type 0
meets_by a x d = All (λ c. Relates c.kind (left_side c.terms x) (c.rhs *ℤ d)) a.constraints

abbrev tight_by : (a : Instance) (choices : List Choice) → List ℤ → ℤ → Type 0
tight_by a choices x d = All (λ c. left_side (chosen a c).terms x ≡ ((chosen a c).rhs *ℤ d)) choices

names_below : (n k : ℕ) (sides : List Side) → k + length sides ≤ n → AllByRecursion (λ (c : Choice). c.pair < n) (choices_from k sides)
names_below n k [] few = tt
names_below n k (s ∷ sides) few = (omega (arith, few), names_below n (k + 1) sides (omega (arith, few)))

pub choices_named : (a : Instance) (piece : List Side) → IsPiece a piece → NamesPairs a (choices_of piece)
choices_named a piece size = All-from_recursion (λ (c : Choice). c.pair < length a.pairs) (choices_of piece) (names_below (length a.pairs) 0 piece (omega (arith, size)))

-- a choice of the piece stands among its choices
choice_stands : (k : ℕ) (sides : List Side) (i : ℕ) (s : Side) → slice_get sides i ≡ Some s → slice_get (choices_from k sides) i ≡ Some (record { pair = k + i; side = s })
choice_stands k [] zero s e = absurd cc
choice_stands k [] (suc i) s e = absurd cc
choice_stands k (t ∷ sides) zero s e =
    let same : t ≡ s = cc in
    let pair : k ≡ k + 0 = omega arith in
    ap (λ x. Some (record { pair = k; side = x })) same ∙ ap (λ n. Some (record { pair = n; side = s })) pair
choice_stands k (t ∷ sides) (suc i) s e =
    let pair : (k + 1) + i ≡ k + suc i = omega arith in
    choice_stands (k + 1) sides i s e ∙ ap (λ n. Some (record { pair = n; side = s })) pair

stands_among : (sides : List Side) (c : Choice) → IsChoiceOf sides c → slice_get (choices_of sides) c.pair ≡ Some c
stands_among sides c of =
    let pair : 0 + c.pair ≡ c.pair = omega arith in
    choice_stands 0 sides c.pair c.side of ∙ ap (λ n. Some (record { pair = n; side = c.side })) pair

in_piece : (a : Instance) (piece : List Side) (p : points.Point a.columns) → MeetsAll a p → IsTightAt a p (choices_of piece) → LiesIn a piece p
in_piece a piece p met tight = record {
  met = met;
  tight = λ c of.
      let at = stands_among piece c of in
      subst (λ b. IsTight p (chosen a b)) (get_or_from_slice_get (choices_of piece) c.pair c c at) (tight c.pair c (slice_get_within (choices_of piece) c.pair c at));
}

pub lies_in_piece : (a : Instance) (piece : List Side) (q : Point) → IsPointAt a (choices_of piece) q → Has a q (LiesIn a piece)
lies_in_piece a piece q h p means =
    in_piece a piece p (same_meaning (meets_by a) q h.point p h.means means h.met) (same_meaning (tight_by a (choices_of piece)) q h.point p h.means means h.tight_there)

pub is_candidate : (a : Instance) (piece : List Side) (q : Point) → IsPiece a piece → IsPointAt a (choices_of piece) q → IsBest a (Some q)
is_candidate a piece q size h = record {
  of = h.numbers;
  feasible = λ p means. in_piece-feasible a p (piece, size, lies_in_piece a piece q h p means);
}

-- ---- outcomes

fits_point : (a : Instance) (best : Option Point) → IsBest a best → PointFits a best
fits_point a None h = tt
fits_point a (Some q) h = h.of

fits_reason : (a : Instance) (budget : ℕ) (limit : Option Point) (tight : List Choice) (r : Reason) → IsTrueReason a budget limit tight r → ReasonFits a r
fits_reason a budget limit tight (reason.Below q) h = h.0.numbers
fits_reason a budget limit tight (reason.Unbounded q ray) h = (h.0.numbers, h.1.numbers)
fits_reason a budget limit tight (reason.Wide at) h = tt
fits_reason a budget limit tight (reason.Spent at) h = tt

get_mapped : {S T : Type 0} (f : S → T) (xs : List S) (k : ℕ) (x : S) → slice_get xs k ≡ Some x → slice_get (map f xs) k ≡ Some (f x)
get_mapped f [] zero x e = absurd cc
get_mapped f [] (suc k) x e = absurd cc
get_mapped f (y ∷ xs) zero x e = ap (λ z. Some (f z)) (some_same e)
  where
    some_same : {X : Type 0} {u v : X} → Some u ≡ Some v → u ≡ v
    some_same e = cc
get_mapped f (y ∷ xs) (suc k) x e = get_mapped f xs k x e

fits_kept : (a : Instance) (budget : ℕ) (limit : Option Point) (ng : List Choice) (kept : List (Choice × Reason)) → NamesPairs a ng → AreReasons a budget limit ng kept → All (KeptFits a) kept
fits_kept a budget limit ng kept named h k d inside =
    let x = get_or kept k d in
    let e = slice_get-get_or kept k d inside in
    let at : slice_get ng k ≡ Some x.0 = subst (λ l. slice_get l k ≡ Some x.0) h.names (get_mapped choice_kept kept k x e) in
    let named_one = subst (λ (c : Choice). c.pair < length a.pairs) (get_or_from_slice_get ng k x.0 x.0 at) (named k x.0 (slice_get_within ng k x.0 at)) in
    (named_one, fits_reason a budget limit (Rattle.std.specs.List.remove ng k) x.1 (h.reasons k x e))

names_of : (a : Instance) (c : Cut) → Passes a c → NamesPairs a (no_good_of c)
names_of a c h = h.indexed.pairs_named

by_own_cut : (a : Instance) (o : Options) (piece : List Side) (c : Cut) (kept : List (Choice × Reason)) (best : Option Point) → Passes a c → Bars (no_good_of c) piece → IsBest a best → IsActiveAgainst c best → All (KeptFits a) kept → AreReasonsIn o.shrink a o.pivots best (no_good_of c) kept → IsOutcomeOf a o piece (outcome.Cut c kept best)
by_own_cut a o piece c kept best passes bars is_best active fits reasons = record {
  fits = (names_of a c passes, fits, fits_point a best is_best);
  may = λ t same. record { passes = passes; bars = subst (λ p. Bars (no_good_of c) p) (sym same) bars; candidate = is_best; active = active };
  true_outcome = λ t same. reasons;
}

pub by_plain_cut : (a : Instance) (o : Options) (piece : List Side) (c : Cut) (best : Option Point) → o.shrink ≡ Off → Passes a c → Bars (no_good_of c) piece → IsBest a best → IsActiveAgainst c best → IsOutcomeOf a o piece (outcome.Cut c [] best)
by_plain_cut a o piece c best off passes bars is_best active =
    by_own_cut a o piece c [] best passes bars is_best active (All-nil (KeptFits a)) (subst (λ m. AreReasonsIn m a o.pivots best (no_good_of c) []) (sym off) tt)

pub by_shrunk_cut : (a : Instance) (o : Options) (piece : List Side) (c : Cut) (kept : List (Choice × Reason)) (best : Option Point) → o.shrink ≡ Full → Passes a c → Bars (no_good_of c) piece → IsBest a best → IsActiveAgainst c best → AreReasons a o.pivots best (no_good_of c) kept → IsOutcomeOf a o piece (outcome.Cut c kept best)
by_shrunk_cut a o piece c kept best full passes bars is_best active reasons =
    by_own_cut a o piece c kept best passes bars is_best active (fits_kept a o.pivots best (no_good_of c) kept (names_of a c passes) reasons) (subst (λ m. AreReasonsIn m a o.pivots best (no_good_of c) kept) (sym full) reasons)

pub shrunk_outcome : (a : Instance) (o : Options) (piece : List Side) (old : Cut) (s : Shrunk) (best limit : Option Point) → o.shrink ≡ Full → Bars (no_good_of old) piece → IsBest a limit → best ≡ limit → IsShrunk a o.pivots limit old s → IsOutcomeOf a o piece (outcome.Cut s.cut s.kept best)
shrunk_outcome a o piece old s best limit full bars is_best same h =
    let P : Option Point → Type 0 = λ b. IsOutcomeOf a o piece (outcome.Cut s.cut s.kept b) in
    subst P (sym same) (by_shrunk_cut a o piece s.cut s.kept limit full h.passes (fewer_bar (no_good_of old) (no_good_of s.cut) piece h.choices bars) is_best h.active h.kept)

pub is_limit : (a : Instance) (best : Option Point) → IsBest a best → IsLimit a best
is_limit a None h = tt
is_limit a (Some q) h = h.of

by_direction : (a : Instance) (o : Options) (piece : List Side) (q : Point) (ray : Ray) → IsPiece a piece → IsPointAt a (choices_of piece) q → IsRayAt a (choices_of piece) ray → IsOutcomeOf a o piece (outcome.Unbounded q ray)
by_direction a o piece q ray size at along = record {
  fits = (at.numbers, along.numbers);
  may = λ t same.
      let P : List Side → Type 0 = λ p. MaySettle a (record t { piece = p }) (outcome.Unbounded q ray) in
      subst P (sym same) (record { piece = size; point = at.numbers; numbers = along.numbers; lies = lies_in_piece a piece q at; recedes = along.recedes });
  true_outcome = λ t same. tt;
}

pub direction_outcome : (a : Instance) (o : Options) (piece : List Side) (r : LpAnswer) (q : Point) (ray : Ray) → IsPiece a piece → r ≡ Unbounded q ray → IsAnswer a (choices_of piece) o.pivots r → IsOutcomeOf a o piece (outcome.Unbounded q ray)
direction_outcome a o piece r q ray size is h =
    let here : IsAnswer a (choices_of piece) o.pivots (Unbounded q ray) = subst (IsAnswer a (choices_of piece) o.pivots) is h in
    by_direction a o piece q ray size here.0 here.1

pub infeasible_bars : (a : Instance) (budget : ℕ) (piece : List Side) (r : LpAnswer) (c : Cut) → r ≡ Infeasible c → IsAnswer a (choices_of piece) budget r → Bars (no_good_of c) piece
infeasible_bars a budget piece r c is h =
    let here : IsAnswer a (choices_of piece) budget (Infeasible c) = subst (IsAnswer a (choices_of piece) budget) is h in
    ray_cut_bars a piece c here

pub by_wide_end : (a : Instance) (o : Options) (piece : List Side) (at : WideAt) → IsWideAt a (choices_of piece) at → IsOutcomeOf a o piece (outcome.Wide at)
by_wide_end a o piece at h = record {
  fits = tt;
  may = λ t same. tt;
  true_outcome = λ t same. subst (λ p. IsWideAt a (choices_of p) at) (sym same) h;
}

pub by_spent_end : (a : Instance) (o : Options) (piece : List Side) (at : SpentAt) → IsSpentAt a (choices_of piece) o.pivots at → IsOutcomeOf a o piece (outcome.Spent at)
by_spent_end a o piece at h = record {
  fits = tt;
  may = λ t same. tt;
  true_outcome = λ t same. subst (λ p. IsSpentAt a (choices_of p) o.pivots at) (sym same) h;
}

-- ---- the incumbent and a point that was found

pub improved_active : (a : Instance) (piece : List Side) (q : Point) (c : Cut) (old new : Option Point) → IsPiece a piece → IsPointAt a (choices_of piece) q → IsPointCutOf a (choices_of piece) q c → IsBest a old → new ≡ lowered old (Some q) → IsActiveAgainst c new
improved_active a piece q c old new size at of best is =
    subst (IsActiveAgainst c) (sym is) (point_cut_active a piece q c old of best (is_candidate a piece q size at))
