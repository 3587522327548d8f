-- What the steps of a log say of pieces.
use Rattle.std.proofs.Common.{inl, inr, ℕ, zero, suc, ◌<◌, ◌≤◌, ◌≡◌, sym, ap, ◌∙◌, subst, arith, List, [], length, get_or, take, Bool, true, false, Option, Some, add-one}
use Rattle.std.specs.Prelude.{All, Any, Contains, slice_get}
use Rattle.std.specs.List.{list_all, list_any}
use Rattle.std.proofs.lemmas.Bool.{false≢true, cases_Bool}
use Rattle.std.proofs.lemmas.List.{take_all}
use Rattle.std.proofs.lemmas.List.Elements.{All-nil, All-more, All-map, All-contains, Contains-get_or}
use Rattle.std.proofs.lemmas.List.Folds.{Any-from_list_any, list_any_at}
use Rattle.std.proofs.lemmas.Option.{slice_get-get_or}
use Rattle.nogoods.specs.declared.choice.Choice.{Choice}
use Rattle.nogoods.specs.declared.choice.Side.{Side}
use Rattle.nogoods.specs.Pieces.{Bars}
use Rattle.lpcc_case.specs.Instance.{Instance}
use Rattle.lpcc_case.specs.Points.{IsFeasible, Point}
use Rattle.lpcc_case.specs.Pieces.{IsPiece, HoldsNoPoint, BarsNothingLower, BarsOnlyEmptyPieces, Improves}
use Rattle.lpcc_case.specs.Verdicts.{IsInfeasible}
use Rattle.lpcc_case.proofs.PieceLaws.{feasible-in_piece}
use Rattle.derivation.specs.declared.step.Step.{Step}
use Rattle.derivation.specs.declared.step.Step.TheVariants.{Start, Derived}
use Rattle.derivation.specs.HintRuns.{NamesBelow, closes}
use Rattle.derivation.specs.Logs.{NamesPairs, Follows, IsLog, IsBarredByStart, StartsAreTrue, StartsBarNothingLower, StartsName, no_good_of, no_goods}
use Rattle.derivation.proofs.Soundness.{Fails, closes_sound}
use Rattle.derivation.proofs.Barring.{keeps, Kept, either, kept_from_Bars, Bars_from_kept, test_from_kept, kept_from_test, closed-bars}

-- ---- one run

pub closed-true : (a : Instance) (earlier : List (List Choice)) (ng : List Choice) (hints : List ℕ) → All (NamesPairs a) earlier → All (BarsOnlyEmptyPieces a) earlier → closes earlier ng hints ≡ true → BarsOnlyEmptyPieces a ng
closed-true a earlier ng hints named true_before closed sides piece bars =
    let Q : ℕ → Type 0 = λ n. All (NamesBelow n) earlier in
    let found = closed-bars earlier ng hints sides (subst Q (sym piece) named) closed bars in
    All-contains (BarsOnlyEmptyPieces a) earlier found.1 true_before (found.0, found.2, found.3) sides piece found.4

pub closed-nothing_lower : (a : Instance) (best : Option (Point a.columns)) (earlier : List (List Choice)) (ng : List Choice) (hints : List ℕ) → All (NamesPairs a) earlier → All (BarsNothingLower a best) earlier → closes earlier ng hints ≡ true → BarsNothingLower a best ng
closed-nothing_lower a best earlier ng hints named before closed sides piece bars =
    let Q : ℕ → Type 0 = λ n. All (NamesBelow n) earlier in
    let found = closed-bars earlier ng hints sides (subst Q (sym piece) named) closed bars in
    All-contains (BarsNothingLower a best) earlier found.1 before (found.0, found.2, found.3) sides piece found.4

-- ---- a log

-- the step is a start that bars the piece
abbrev bars_as_start : List Side → Step → Bool
bars_as_start sides (Start ng) = list_all (keeps sides) ng
bars_as_start sides (Derived ng hints) = false

abbrev StepFails : List Side → Step → Type 0
StepFails sides step = Fails (Kept sides) (no_good_of step)

step_fails : (sides : List Side) (earlier : List (List Choice)) (step : Step) → Follows earlier step → All (Fails (Kept sides)) earlier → (bars_as_start sides step ≡ true → ⊥) → StepFails sides step
step_fails sides earlier (Start ng) follows before start kept = start (test_from_kept sides ng kept)
step_fails sides earlier (Derived ng hints) follows before start kept = closes_sound (Kept sides) (either sides) earlier before hints ng kept follows

-- where no start bars the piece, no step does
none_bar : (log : List Step) (sides : List Side) → IsLog log → list_any (bars_as_start sides) log ≡ false → (n : ℕ) → n ≤ length log → All (StepFails sides) (take n log)
none_bar log sides is none zero few = All-nil (StepFails sides)
none_bar log sides is none (suc n) few =
    let d : Step = Start [] in
    let inside : n < length log = omega arith in
    let before = none_bar log sides is none n (omega arith) in
    let here = step_fails sides (no_goods (take n log)) (get_or log n d) (is n (get_or log n d) (slice_get-get_or log n d inside))
    (All-map (Fails (Kept sides)) no_good_of (take n log) before)
    (λ bars. false≢true (sym none ∙ list_any_at (bars_as_start sides) log n d inside bars)) in
    let Q : ℕ → Type 0 = λ m. All (StepFails sides) (take m log) in
    subst Q (add-one n) (All-more (StepFails sides) log n d inside before here)

start_bars : (log : List Step) (sides : List Side) (k : ℕ) (step : Step) → StartsName (length sides) log → slice_get log k ≡ Some step → bars_as_start sides step ≡ true → IsBarredByStart log sides
start_bars log sides k (Start ng) named at bars = (k, ng, at, Bars_from_kept sides ng (named k ng at) (kept_from_test sides ng bars))
start_bars log sides k (Derived ng hints) named at bars = absurd (false≢true bars)

pub steps-by_start : (log : List Step) (sides : List Side) → IsLog log → StartsName (length sides) log → Any (λ ng. Bars ng sides) (no_goods log) → IsBarredByStart log sides
steps-by_start log sides is named barred = elim (cases_Bool (list_any (bars_as_start sides) log)) [
  | inl some ↦
      let found = Any-from_list_any (bars_as_start sides) log some in
      start_bars log sides found.0 found.1 named (slice_get-get_or log found.0 found.1 found.2 ∙ ap (λ s. Some s) found.3) found.4
  | inr none ↦
      let Q : List Step → Type 0 = λ steps. All (StepFails sides) steps in
      let all : All (StepFails sides) log = subst Q (take_all (length log) log (omega arith)) (none_bar log sides is none (length log) (omega arith)) in
      let fails = All-contains (Fails (Kept sides)) (no_goods log) barred.1 (All-map (Fails (Kept sides)) no_good_of log all) (barred.0, barred.2, barred.3) in
      absurd (fails (kept_from_Bars sides barred.1 barred.4))
]

pub steps-true : (a : Instance) (log : List Step) → IsLog log → StartsName (length a.pairs) log → StartsAreTrue a log → All (BarsOnlyEmptyPieces a) (no_goods log)
steps-true a log is named starts k d inside sides piece bars =
    let Q : ℕ → Type 0 = λ n. StartsName n log in
    let at = Contains-get_or (no_goods log) k d inside in
    let found = steps-by_start log sides is (subst Q (sym piece) named) (at.0, get_or (no_goods log) k d, at.1, at.2, bars) in
    starts found.0 found.1 found.2 sides piece found.3

pub steps-nothing_lower : (a : Instance) (best : Option (Point a.columns)) (log : List Step) → IsLog log → StartsName (length a.pairs) log → StartsBarNothingLower a best log → All (BarsNothingLower a best) (no_goods log)
steps-nothing_lower a best log is named starts k d inside sides piece bars =
    let Q : ℕ → Type 0 = λ n. StartsName n log in
    let at = Contains-get_or (no_goods log) k d inside in
    let found = steps-by_start log sides is (subst Q (sym piece) named) (at.0, get_or (no_goods log) k d, at.1, at.2, bars) in
    starts found.0 found.1 found.2 sides piece found.3

pub empty-nothing_lower : (a : Instance) (best : Option (Point a.columns)) (log : List Step) → IsLog log → StartsName (length a.pairs) log → StartsBarNothingLower a best log → Contains (no_goods log) [] → (p : Point a.columns) → IsFeasible a p → Improves a p best → ⊥
empty-nothing_lower a best log is named starts empty p feasible =
    let found = feasible-in_piece a p feasible in
    All-contains (BarsNothingLower a best) (no_goods log) [] (steps-nothing_lower a best log is named starts) empty found.0 found.1 (λ k d inside. absurd (omega arith)) p found.2

pub empty-by_start : (log : List Step) (sides : List Side) → IsLog log → StartsName (length sides) log → Contains (no_goods log) [] → IsBarredByStart log sides
empty-by_start log sides is named empty =
    steps-by_start log sides is named (empty.0, [], empty.1, empty.2, λ k d inside. absurd (omega arith))

pub empty-pieces : (a : Instance) (log : List Step) → IsLog log → StartsName (length a.pairs) log → StartsAreTrue a log → Contains (no_goods log) [] → (sides : List Side) → IsPiece a sides → HoldsNoPoint a sides
empty-pieces a log is named starts empty sides piece =
    All-contains (BarsOnlyEmptyPieces a) (no_goods log) [] (steps-true a log is named starts) empty sides piece (λ k d inside. absurd (omega arith))

pub empty-points : (a : Instance) (log : List Step) → IsLog log → StartsName (length a.pairs) log → StartsAreTrue a log → Contains (no_goods log) [] → IsInfeasible a
empty-points a log is named starts empty p feasible =
    let found = feasible-in_piece a p feasible in
    empty-pieces a log is named starts empty found.0 found.1 p found.2
