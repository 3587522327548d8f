-- Why the no-goods of lines that do not fail leave nothing lower out.
use Rattle.std.proofs.Common.{ℕ, zero, suc, ◌-◌, ◌<◌, ◌≤◌, refl, subst, arith, ℤ, pos, ◌*ℤ◌, ◌≤ℤ◌, List, [], length, map, get_or, take, add-one, inl, inr, Option, Some, None}
use Rattle.std.specs.Prelude.{All}
use Rattle.std.proofs.lemmas.List.{take_all}
use Rattle.std.proofs.lemmas.List.Elements.{All-nil, All-more, All-map, All-weaker}
use Rattle.std.proofs.lemmas.Option.{slice_get-get_or, slice_get_within, get_or_from_slice_get}
use Rattle.lp_base.proofs.Ring.{mul_comm}
use Rattle.nogoods.specs.declared.choice.Choice.{Choice}
use Rattle.lpcc_case.specs.Instance.{Instance}
use Rattle.lpcc_case.specs.Points.{Point, IsFeasible, cost_at}
use Rattle.lpcc_case.proofs.PieceLaws.{feasible-in_piece}
use Rattle.cuts.specs.declared.cut.Cut.TheVariants as cut
use Rattle.lpcc_case.specs.Pieces.{BarsNothingLower, Improves, NamesPairs}
use Rattle.cuts.specs.Cuts.{Passes, right_sum}
use Rattle.cuts.proofs.CutLaws.{bars_nothing_lower}
use Rattle.derivation.proofs.LogLaws.{closed-nothing_lower}
use Rattle.cert_text.specs.declared.cert.CertLine.{CertLine}
use Rattle.cert_text.specs.declared.cert.CertLine.TheVariants.{Ray, Point as PointCut, Derived}
use Rattle.cert_text.specs.Certs.{no_good_of}
use Rattle.cert_check.specs.declared.accept.NoWhy.{NoWhy}
use Rattle.cert_check.specs.declared.accept.NoWhy.TheVariants.{WrongKind, CutFails, BoundLow, HintFails, NotEmptyAtEnd}
use Rattle.cert_check.specs.Acceptance.{NoGoodFails, NoGoodsFail, PointCutPasses, HintsPass, EndsEmpty}
use Rattle.cert_check.specs.Barring.{NoGoodsPass, claimed_by}
use Rattle.cert_check.proofs.Stable.{Holds, all_stable, below_stable}

-- the no-good names pairs of the instance, and bars nothing lower
abbrev pub IsSound : (a : Instance) → Option (Point a.columns) → List Choice → Type 0
IsSound a best ng = NamesPairs a ng × BarsNothingLower a best ng

names_stable : (a : Instance) (ng : List Choice) → Holds (NamesPairs a ng) → NamesPairs a ng
names_stable a ng h = all_stable (λ c. c.pair < length a.pairs) ng (λ c. below_stable c.pair (length a.pairs)) h

-- what cannot fail to pass
from_passing : (a : Instance) (best : Option (Point a.columns)) (ng : List Choice) (P : Type 0) → (P → IsSound a best ng) → Holds P → IsSound a best ng
from_passing a best ng P sound holds =
    (names_stable a ng (λ never. holds (λ h. never (sound h).0)), λ sides piece bars p lies improves. holds (λ h. (sound h).1 sides piece bars p lies improves))

abbrev LinePasses : (a : Instance) → Option (Point a.columns) → List (List Choice) → CertLine → Type 0
LinePasses a best earlier line = (why : NoWhy) → NoGoodFails a (claimed_by a best) earlier line why → ⊥

ray_sound : (a : Instance) (best : Option (Point a.columns)) (earlier : List (List Choice)) (ng : List Choice) (mult : List (ℕ × ℤ)) → LinePasses a best earlier (Ray ng mult) → IsSound a best ng
ray_sound a best earlier ng mult passes =
    from_passing a best ng (Passes a (cut.Ray ng mult)) (λ h. (h.indexed.pairs_named, bars_nothing_lower a (cut.Ray ng mult) best h tt)) (λ never. passes CutFails (refl, never))

point_sound : (a : Instance) (best : Option (Point a.columns)) (earlier : List (List Choice)) (ng : List Choice) (e : ℤ) (mult : List (ℕ × ℤ)) → LinePasses a best earlier (PointCut ng e mult) → IsSound a best ng
point_sound a None earlier ng e mult passes = absurd (passes WrongKind refl)
point_sound a (Some q) earlier ng e mult passes =
    let v = right_sum a mult in
    let low : ℤ → ℤ → Type 0 = λ x y. x ≤ℤ y in
    from_passing a (Some q) ng (PointCutPasses a ng e mult × ((cost_at a q *ℤ e) ≤ℤ (v *ℤ pos q.d)))
    (λ h. (h.0.indexed.pairs_named, bars_nothing_lower a (cut.Point ng mult e v) (Some q) h.0 (subst (λ z. z ≤ℤ (v *ℤ pos q.d)) (mul_comm (cost_at a q) e) h.1)))
    (λ never. passes CutFails (inl (refl, λ h. passes BoundLow (inr (refl, h, λ bound. never (h, bound))))))

derived_sound : (a : Instance) (best : Option (Point a.columns)) (earlier : List (List Choice)) (ng : List Choice) (hints : List ℕ) → LinePasses a best earlier (Derived ng hints) → All (IsSound a best) earlier → IsSound a best ng
derived_sound a best earlier ng hints passes before =
    let named = All-weaker (IsSound a best) (NamesPairs a) (λ x s. s.0) earlier before in
    let bars = All-weaker (IsSound a best) (BarsNothingLower a best) (λ x s. s.1) earlier before in
    from_passing a best ng (HintsPass a earlier ng hints) (λ h. (h.0, closed-nothing_lower a best earlier ng hints named bars h.1)) (λ never. passes HintFails (refl, never))

line_sound : (a : Instance) (best : Option (Point a.columns)) (earlier : List (List Choice)) (line : CertLine) → LinePasses a best earlier line → All (IsSound a best) earlier → IsSound a best (no_good_of line)
line_sound a best earlier (Ray ng mult) passes before = ray_sound a best earlier ng mult passes
line_sound a best earlier (PointCut ng e mult) passes before = point_sound a best earlier ng e mult passes
line_sound a best earlier (Derived ng hints) passes before = derived_sound a best earlier ng hints passes before

abbrev LineIsSound : (a : Instance) → Option (Point a.columns) → CertLine → Type 0
LineIsSound a best line = IsSound a best (no_good_of line)

first_sound : (a : Instance) (best : Option (Point a.columns)) (lines : List CertLine) → NoGoodsPass a (claimed_by a best) lines → (n : ℕ) → n ≤ length lines → All (LineIsSound a best) (take n lines)
first_sound a best lines pass zero few = All-nil (LineIsSound a best)
first_sound a best lines pass (suc n) few =
    let d : CertLine = Derived [] [] in
    let inside : n < length lines = omega arith in
    let before = first_sound a best lines pass n (omega arith) in
    let here = line_sound a best (map no_good_of (take n lines)) (get_or lines n d) (λ why. pass n (get_or lines n d) why inside (slice_get-get_or lines n d inside))
    (All-map (IsSound a best) no_good_of (take n lines) before) in
    let Q : ℕ → Type 0 = λ m. All (LineIsSound a best) (take m lines) in
    subst Q (add-one n) (All-more (LineIsSound a best) lines n d inside before here)

all_sound : (a : Instance) (best : Option (Point a.columns)) (lines : List CertLine) → NoGoodsPass a (claimed_by a best) lines → All (IsSound a best) (map no_good_of lines)
all_sound a best lines pass =
    let Q : List CertLine → Type 0 = λ ls. All (LineIsSound a best) ls in
    let all : All (LineIsSound a best) lines = subst Q (take_all (length lines) lines (omega arith)) (first_sound a best lines pass (length lines) (omega arith)) in
    All-map (IsSound a best) no_good_of lines all

pub lines_bar : (a : Instance) (best : Option (Point a.columns)) (lines : List CertLine) → NoGoodsPass a (claimed_by a best) lines → All (BarsNothingLower a best) (map no_good_of lines)
lines_bar a best lines pass = All-weaker (IsSound a best) (BarsNothingLower a best) (λ ng s. s.1) (map no_good_of lines) (all_sound a best lines pass)

-- the last no-good bars every piece, and each feasible point lies in a piece
ending_bars : (a : Instance) (best : Option (Point a.columns)) (lines : List CertLine) → All (BarsNothingLower a best) (map no_good_of lines) → EndsEmpty lines → (p : Point a.columns) → IsFeasible a p → Improves a p best → ⊥
ending_bars a best lines bars ends p feasible improves =
    let no_goods = map no_good_of lines in
    let at = length lines - 1 in
    let inside = slice_get_within no_goods at [] ends in
    let Q : List Choice → Type 0 = BarsNothingLower a best in
    let last : BarsNothingLower a best [] = subst Q (get_or_from_slice_get no_goods at [] [] ends) (bars at [] inside) in
    let found = feasible-in_piece a p feasible in
    last found.0 found.1 (λ k d none. absurd (omega arith)) p found.2 improves

-- the same, from lines of which none fails, wherever they begin
pub nothing_improves : (a : Instance) (best : Option (Point a.columns)) (lines : List CertLine) (first : ℕ) → ((n : ℕ) (why : NoWhy) → NoGoodsFail a (claimed_by a best) lines first n why → ⊥) → (p : Point a.columns) → IsFeasible a p → Improves a p best → ⊥
nothing_improves a best lines first pass p feasible improves =
    let each : NoGoodsPass a (claimed_by a best) lines = λ k line why inside found fails. pass _ why (inl (k, line, found, refl, fails)) in
    pass _ NotEmptyAtEnd (inr (refl, refl, λ ends. ending_bars a best lines (lines_bar a best lines each) ends p feasible improves))
