-- Why a verdict that was concluded is true.
use Rattle.std.proofs.Common.{inl, inr, ℕ, zero, suc, ◌+◌, ◌<◌, ◌≡◌, refl, sym, ap, ◌∙◌, subst, arith, ℤ, pos, ◌+ℤ◌, ◌*ℤ◌, List, [], ◌∷◌, ◌++◌, length, get_or, map, Option, Some, None}
use Rattle.std.specs.Prelude.{All, Contains, slice_get, unsigned_abs}
use Rattle.std.specs.List.{range_with_len}
use Rattle.std.proofs.lemmas.List.Elements.{All-contains, All-cons, All-nil}
use Rattle.lp_nums.specs.Fractions.{Fraction, SameValue}
use Rattle.nogoods.specs.declared.choice.Choice.{Choice}
use Rattle.nogoods.specs.declared.choice.Side.{Side}
use Rattle.nogoods.specs.Pieces.{Bars, IsChoiceOf}
use Rattle.sense.specs.Senses.{signed}
use Rattle.lpcc_case.specs.Instance.{Instance}
use Rattle.lpcc_case.specs.Points as points
use Rattle.lpcc_case.specs.Points.{IsFeasible, IsTightAt}
use Rattle.lpcc_case.specs.Pieces.{LiesIn}
use Rattle.lpcc_case.specs.Values.{IsValue}
use Rattle.lpcc_case.specs.Verdicts.{HasValue, IsTrueOf, IsInfeasible, IsUnbounded}
use Rattle.lpcc_case.specs.declared.point.Point.{Point}
use Rattle.lpcc_case.specs.declared.verdict.Verdict.{Verdict}
use Rattle.lpcc_case.specs.declared.verdict.Verdict.TheVariants.{Optimal, Infeasible, Unbounded}
use Rattle.lpcc_case.proofs.PieceLaws.{feasible-in_piece}
use Rattle.lpcc_case.proofs.Meanings.{means_one}
use Rattle.cuts.specs.declared.cut.Cut.{Cut}
use Rattle.cuts.specs.Cuts.{IsActive, Improves, no_good_of}
use Rattle.cuts.proofs.CutLaws.{cut_is_true, nothing_lower}
use Rattle.derivation.specs.HintRuns.{NamesBelow}
use Rattle.derivation.specs.Logs.{no_goods}
use Rattle.search.specs.FirstPieces.{IsBarred}
use Rattle.cert_check.specs.Acceptance.{IsWholePiece}
use Rattle.cert_check.proofs.PointLines.{abs_of_positive}
use Rattle.cert_check.proofs.Following.{falls_below}
use Rattle.play.specs.declared.event.Direction.{Direction}
use Rattle.play.specs.declared.event.VerdictKind.{VerdictKind}
use Rattle.play.specs.declared.event.VerdictKind.TheVariants as kind
use Rattle.play.specs.Parts.{Part, barring}
use Rattle.reasons.specs.Reasons.{IsActiveAgainst}
use Rattle.play.specs.Points.{IsBest, IsKept, IsDirection, choices_from, choices_of}
use Rattle.play.specs.Truth.{IsTrueToBest, IsSoundCut, Says}
use Rattle.play.proofs.ListLaws.{from_map}
use Rattle.play.proofs.PointLaws.{active_of, active_of_none}
use Rattle.play.proofs.StartLaws.{barred_by_empty}

-- ---- with an empty step

-- each piece is barred by an absorbed cut
pub each_barred : (a : Instance) (drawn : List (List Side)) (d : Part) → IsTrueToBest a drawn d → Contains (no_goods d.log) [] → (sides : List Side) → length sides ≡ length a.pairs → IsBarred (barring d) sides
each_barred a drawn d h empty sides size =
    let Q : ℕ → Type 0 = λ n. All (NamesBelow n) (no_goods d.log) in
    let P : List (List Choice) → Type 0 = λ l. IsBarred l sides in
    subst P h.starts (barred_by_empty d.log sides h.log (subst Q (sym size) h.named) empty)

no_better : (a : Instance) (drawn : List (List Side)) (d : Part) (best : Option (points.Point a.columns)) → IsTrueToBest a drawn d → Contains (no_goods d.log) [] → ((c : Cut) → IsActiveAgainst c d.best → IsActive a c best) → (p : points.Point a.columns) → IsFeasible a p → Improves a p best → ⊥
no_better a drawn d best h empty active p feasible improves =
    let piece = feasible-in_piece a p feasible in
    let barred = each_barred a drawn d h empty piece.0 piece.1 in
    let found = from_map no_good_of d.absorbed barred.1 (barred.0, barred.2, barred.3) in
    let sound = All-contains (IsSoundCut a d.best) d.absorbed found.0 h.cuts found.1 in
    let bars : Bars (no_good_of found.0) piece.0 = subst (λ ng. Bars ng piece.0) (sym found.2) barred.4 in
    nothing_lower a found.0 best p (cut_is_true a found.0 sound.0) (active found.0 sound.1) piece.2.met (λ k e inside. piece.2.tight _ (bars k e inside)) improves

value_moves : (a : Instance) (p : points.Point a.columns) (z d : ℤ) (value : Fraction) (denominator : ℕ) → points.cost_at a p ≡ z → pos p.d ≡ d → pos denominator ≡ value.den → SameValue value (record { num = signed a.sense (z +ℤ (a.offset *ℤ d)); den = a.scale *ℤ d }) → HasValue a p value.num denominator
value_moves a p z d value denominator cost same den is = rw (cost, same, den) (sym is)

optimal_true : (a : Instance) (drawn : List (List Side)) (d : Part) (q : Point) (value : Fraction) → IsTrueToBest a drawn d → d.best ≡ Some q → Contains (no_goods d.log) [] → IsValue a q.z q.d value → IsTrueOf a (Optimal value)
optimal_true a drawn d q value h is empty value_is =
    let best : IsBest a (Some q) = subst (IsBest a) is h.best in
    let meant = means_one a q best.of.fits in
    let p = meant.0 in
    let cost : points.cost_at a p ≡ q.z = ap (λ x. Rattle.lp_base.specs.Sums.dot a.cost x) meant.1.0 ∙ sym best.of.cost in
    let den = abs_of_positive value.den value_is.lowest.positive in
    let B : Option Point → Cut → Type 0 = λ b c. IsActiveAgainst c b in
    let lowest = λ (r : points.Point a.columns) (feasible : IsFeasible a r) (lower : points.IsLower a r p).
    no_better a drawn d (Some p) h empty (λ c backed. active_of a c q p best.of meant.1 (subst (λ b. B b c) is backed)) r feasible lower in
    (unsigned_abs value.den, den.0, (p, den.1, best.feasible p meant.1, value_moves a p q.z q.d value (unsigned_abs value.den) cost meant.1.1 den.0 value_is.same, lowest))

infeasible_true : (a : Instance) (drawn : List (List Side)) (d : Part) → IsTrueToBest a drawn d → d.best ≡ None → Contains (no_goods d.log) [] → IsInfeasible a
infeasible_true a drawn d h is empty p feasible =
    let B : Option Point → Cut → Type 0 = λ b c. IsActiveAgainst c b in
    no_better a drawn d None h empty (λ c backed. active_of_none a c (subst (λ b. B b c) is backed)) p feasible tt

-- ---- with a direction

choices_pairs : (k : ℕ) (sides : List Side) → map (λ (c : Choice). c.pair) (choices_from k sides) ≡ range_with_len k (length sides)
choices_pairs k [] = refl
choices_pairs k (s ∷ sides) = ap (λ l. k ∷ l) (choices_pairs (k + 1) sides)

pub whole_piece : (a : Instance) (sides : List Side) → length sides ≡ length a.pairs → IsWholePiece a (choices_of sides)
whole_piece a sides size = choices_pairs 0 sides ∙ ap (λ n. range_with_len 0 n) size

at_front : (front : List Side) (s : Side) (rest : List Side) (k : ℕ) → length front ≡ k → slice_get (front ++ s ∷ rest) k ≡ Some s
at_front [] s rest zero e = refl
at_front [] s rest (suc k) e = absurd (omega (arith, e))
at_front (t ∷ front) s rest zero e = absurd (omega (arith, e))
at_front (t ∷ front) s rest (suc k) e = at_front front s rest k (omega (arith, e))

choices_behind : (front sides : List Side) (k : ℕ) → length front ≡ k → All (IsChoiceOf (front ++ sides)) (choices_from k sides)
choices_behind front [] k e = All-nil (IsChoiceOf (front ++ []))
choices_behind front (s ∷ sides) k e =
    let joined : (front ++ s ∷ []) ++ sides ≡ front ++ s ∷ sides = Rattle.std.proofs.Common.append_assoc front (s ∷ []) sides in
    let size : length (front ++ s ∷ []) ≡ k + 1 = omega (arith, e, Rattle.std.proofs.lemmas.List.length-append front (s ∷ [])) in
    let P : List Side → Type 0 = λ l. All (IsChoiceOf l) (choices_from (k + 1) sides) in
    All-cons (IsChoiceOf (front ++ s ∷ sides)) (record { pair = k; side = s }) (choices_from (k + 1) sides) (at_front front s sides k e) (subst P joined (choices_behind (front ++ s ∷ []) sides (k + 1) size))

-- each choice of a piece is the piece's
pub choices_bar : (sides : List Side) → Bars (choices_of sides) sides
choices_bar sides = choices_behind [] sides 0 refl

pub tight_in_piece : (a : Instance) (sides : List Side) (p : points.Point a.columns) → LiesIn a sides p → IsTightAt a p (choices_of sides)
tight_in_piece a sides p lies k e inside = lies.tight _ (choices_bar sides k e inside)

unbounded_true : (a : Instance) (x : Direction) → IsDirection a x → IsUnbounded a
unbounded_true a x h bound =
    let meant = means_one a x.point h.point.fits in
    let lies = h.lies meant.0 meant.1 in
    falls_below a (choices_of x.piece) meant.0 x.ray.r bound (whole_piece a x.piece h.piece) lies.met (tight_in_piece a x.piece meant.0 lies) h.recedes

pub not_none : {T : Type 0} (x : Option T) → (x ≡ None → ⊥) → (y : T) × (x ≡ Some y)
not_none None h = absurd (h refl)
not_none (Some y) h = (y, refl)

-- ---- every verdict

pub concluded_true : (a : Instance) (drawn : List (List Side)) (d : Part) (v : VerdictKind) (w : Verdict) → IsTrueToBest a drawn d → d.verdict ≡ Some v → Says a d v w → IsTrueOf a w
concluded_true a drawn d kind.Optimal (Optimal value) h is says = let may = h.concluded kind.Optimal is in optimal_true a drawn d says.0 value h says.1 may.0 says.2
concluded_true a drawn d kind.Optimal Infeasible h is says = absurd says
concluded_true a drawn d kind.Optimal Unbounded h is says = absurd says
concluded_true a drawn d kind.Infeasible (Optimal value) h is says = absurd says
concluded_true a drawn d kind.Infeasible Infeasible h is says = let may = h.concluded kind.Infeasible is in infeasible_true a drawn d h may.1 may.0
concluded_true a drawn d kind.Infeasible Unbounded h is says = absurd says
concluded_true a drawn d kind.Unbounded (Optimal value) h is says = absurd says
concluded_true a drawn d kind.Unbounded Infeasible h is says = absurd says
concluded_true a drawn d kind.Unbounded Unbounded h is says =
    let found = not_none d.unbounded (h.concluded kind.Unbounded is) in
    unbounded_true a found.0 (subst (IsKept a) found.1 h.unbounded)
