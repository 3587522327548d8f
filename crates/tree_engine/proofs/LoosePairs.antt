-- Pairs without a tight member, and pairs that are not on a path.
use Rattle.std.proofs.Common.{inl, inr, ℕ, zero, suc, ◌+◌, ◌<◌, ◌≤◌, ◌≡◌, refl, sym, ap, ◌∙◌, subst, arith, Bool, true, false, IsTrue, List, [], ◌∷◌, length, get_or, Option, Some, ◌⊎◌}
use Rattle.std.specs.Prelude.{All, IfOk, Result, Ok, Err, ◌↔◌, slice_get}
use Rattle.std.proofs.lemmas.Bool.{cases_lt, false≢true}
use Rattle.std.proofs.lemmas.Option.{get_or_from_slice_get, slice_get-get_or, slice_get_within}
use Rattle.std.proofs.lemmas.List.{get_or_default}
use Rattle.std.proofs.lemmas.List.Elements.{All-cons, All-contains, All-head, All-nil}
use Rattle.nogoods.specs.declared.choice.Choice.{Choice}
use Rattle.nogoods.specs.declared.choice.Side.{Side}
use Rattle.nogoods.specs.declared.choice.Side.TheVariants.{A, B}
use Rattle.nogoods.specs.Choices.{pair_of, pairs_ascend}
use Rattle.lpcc_case.specs.Instance.{Instance, chosen, constraint_at, pair_at}
use Rattle.lpcc_case.specs.Points as points
use Rattle.lpcc_case.specs.Points.{IsComplementary, IsTight, IsTightAt}
use Rattle.lpcc_case.specs.NarrowPoints.{Means}
use Rattle.lpcc_case.specs.Pieces.{NamesPairs}
use Rattle.lpcc_case.specs.declared.point.Point.{Point}
use Rattle.walks.specs.Ends.{IsPointAt}
use Rattle.lex_simplex.specs.declared.answer.LpAnswer.{LpAnswer}
use Rattle.lex_simplex.specs.declared.answer.LpAnswer.TheVariants.{Infeasible, Optimum, Unbounded, Wide, Spent}
use Rattle.cert_check.specs.Acceptance.{IsWholePiece}
use Rattle.cert_check.proofs.Judged.{right_pairs}
use Rattle.lp_base.proofs.Rises.{few_ascending}
use Rattle.reasons.specs.Reasons.{Has}
use Rattle.tree_engine.specs.Paths.{HasTightSide, IsFirstFree, IsFirstLoose, IsFree, IsInPlace, IsOn, choice_of}
use Rattle.tree_engine.specs.Runs.{IsSplitAt}
use Rattle.tree_engine.proofs.PathLaws.{apart}

-- ---- a loose pair is not on the path of a point

pub choice_is : (x c : Choice) → x.pair ≡ c.pair → x.side ≡ c.side → x ≡ c
choice_is x c p s = λ i. record { pair = p i; side = s i }

tight_side : (a : Instance) (p : points.Point a.columns) (pair : ℕ) (s : Side) → IsTight p (chosen a (choice_of pair s)) → HasTightSide a p pair
tight_side a p pair A h = inl h
tight_side a p pair B h = inr h

on_path_tight : (a : Instance) (p : points.Point a.columns) (path : List Choice) (pair : ℕ) → IsTightAt a p path → IsOn path pair → HasTightSide a p pair
on_path_tight a p path pair tight (k, c, inside, e, same) =
    let here : IsTight p (chosen a c) = All-contains (λ d. IsTight p (chosen a d)) path c tight (k, inside, e) in
    let is : c ≡ choice_of pair c.side = choice_is c (choice_of pair c.side) same refl in
    tight_side a p pair c.side (subst (λ d. IsTight p (chosen a d)) is here)

loose_free : (a : Instance) (path : List Choice) (q : Point) (pair : ℕ) → IsPointAt a path q → IsFirstLoose a q pair → IsFree a path pair
loose_free a path q pair at loose =
    (loose.named, λ on. loose.loose at.point at.means (on_path_tight a at.point path pair at.tight_there on))

pub split_free : (a : Instance) (budget : ℕ) (best : Option Point) (path : List Choice) (pair : ℕ) (answer : LpAnswer) → IsSplitAt a budget best path pair answer → IsFree a path pair
split_free a budget best path pair (Infeasible cut) h = absurd h
split_free a budget best path pair (Optimum q cut) h = loose_free a path q pair h.0.0 h.2
split_free a budget best path pair (Unbounded q ray) h = h.1.free
split_free a budget best path pair (Wide at) h = h.1.free
split_free a budget best path pair (Spent at) h = h.1.free

-- ---- the first pair that is not on a path

-- each of the first k choices is of the pair of its place
abbrev pub ArePlaced : ℕ → List Choice → Type 0
ArePlaced k path = (i : ℕ) → i < k → IsInPlace path i

placed_within : (path : List Choice) (i : ℕ) → IsInPlace path i → i < length path
placed_within path i h = slice_get_within path i h.0 h.1

placed_pair : (path : List Choice) (i : ℕ) (d : Choice) → IsInPlace path i → (get_or path i d).pair ≡ i
placed_pair path i d h = ap pair_of (get_or_from_slice_get path i h.0 d h.1) ∙ h.2

at_least : (path : List Choice) (i : ℕ) (d : Choice) → IsTrue (pairs_ascend path) → ArePlaced i path → i < length path → i ≤ (get_or path i d).pair
at_least path zero d up each inside = omega arith
at_least path (suc j) d up each inside = omega (arith, apart path j (suc j) d up (omega arith) inside, placed_pair path j d (each j (omega arith)))

placed_on : (path : List Choice) (k : ℕ) → IsInPlace path k → IsOn path k
placed_on path k h =
    let inside = placed_within path k h in
    (k, h.0, inside, get_or_from_slice_get path k h.0 h.0 h.1, h.2)

gap_free : (path : List Choice) (i : ℕ) → IsTrue (pairs_ascend path) → ArePlaced i path → (IsInPlace path i → ⊥) → IsOn path i → ⊥
gap_free path i up each gap (k, c, inside, e, same) =
    let there_is : slice_get path k ≡ Some c = slice_get-get_or path k c inside ∙ ap (λ x. Some x) e in
    elim (cases_lt k i) [
      | inl lt ↦ omega (arith, lt, ap pair_of e, placed_pair path k c (each k lt), same)
      | inr ge ↦ elim (cases_lt i k) [
        | inl gt ↦ omega (arith, at_least path i c up each (omega (arith, gt, inside)), apart path i k c up gt inside, ap pair_of e, same)
        | inr le ↦ let is : k ≡ i = omega (arith, ge, le) in gap (subst (IsInPlace path) is (c, there_is, same ∙ sym is))
      ]
    ]

pub first_gap : (a : Instance) (path : List Choice) (i : ℕ) → IsTrue (pairs_ascend path) → i < length a.pairs → ArePlaced i path → (IsInPlace path i → ⊥) → IsFirstFree a path i
first_gap a path i up inside each gap = record {
  free = (inside, λ on. gap_free path i up each gap on);
  first = λ k lt. placed_on path k (each k lt);
}

many : (path : List Choice) (n : ℕ) → ArePlaced n path → n ≤ length path
many path zero each = omega arith
many path (suc n) each = omega (arith, placed_within path n (each n (omega arith)))

pub whole : (a : Instance) (path : List Choice) (n : ℕ) → IsTrue (pairs_ascend path) → NamesPairs a path → length a.pairs ≤ n → ArePlaced n path → IsWholePiece a path
whole a path n up named all each =
    let few = few_ascending pair_of (length a.pairs) path up named in
    let most = many path n each in
    right_pairs a path path a.pairs n refl refl (omega (arith, few, most, all)) (omega (arith, few, all)) (λ k d lt. placed_pair path k d (each k lt))

pub gap_found : (a : Instance) (path choices : List Choice) (i : ℕ) (r : Bool) → choices ≡ path → IsTrue (pairs_ascend path) → i < length a.pairs → r ≡ false → IsTrue r ↔ IsInPlace choices i → ArePlaced i choices → IsFirstFree a path i
gap_found a path choices i r same up inside e tells each =
    let P : List Choice → Type 0 = λ cs. (IsTrue r ↔ IsInPlace cs i) × ArePlaced i cs in
    let there_is : P path = subst P same (tells, each) in
    first_gap a path i up inside there_is.1 (λ placed. false≢true (sym e ∙ there_is.0.1 placed))

pub placed_more : (choices : List Choice) (i : ℕ) (r : Bool) → r ≡ true → IsTrue r ↔ IsInPlace choices i → ArePlaced i choices → ArePlaced (i + 1) choices
placed_more choices i r e tells each k lt = elim (cases_lt k i) [
  | inl below ↦ each k below
  | inr past ↦ let is : i ≡ k = omega (arith, past, lt) in subst (IsInPlace choices) is (tells.0 e)
]

pub whole_found : (a : Instance) (path choices : List Choice) (n : ℕ) → choices ≡ path → IsTrue (pairs_ascend path) → NamesPairs a path → length a.pairs ≤ n → ArePlaced n choices → IsWholePiece a path
whole_found a path choices n same up named all each = whole a path n up named all (subst (ArePlaced n) same each)

-- ---- pairs at a point

pub tight_of_one : (a : Instance) (p : points.Point a.columns) (cs : List Choice) (c : Choice) (r : Bool) → cs ≡ c ∷ [] → IsTrue r ↔ IsTightAt a p cs → IsTrue r ↔ IsTight p (chosen a c)
tight_of_one a p cs c r same tells =
    let P : Choice → Type 0 = λ d. IsTight p (chosen a d) in
    let there_is : IsTrue r ↔ All P (c ∷ []) = subst (λ l. IsTrue r ↔ All P l) same tells in
    (λ t. All-head P c [] (there_is.0 t), λ one. there_is.1 (All-cons P c [] one (All-nil P)))

pub side_b : {E : Type 0} (r : Result Bool E) (a : Instance) (p : points.Point a.columns) (pair : ℕ) (f : Bool) → f ≡ false → IsTrue f ↔ IsTight p (chosen a (choice_of pair A)) → IfOk r (λ t. IsTrue t ↔ IsTight p (chosen a (choice_of pair B))) → IfOk r (λ t. IsTrue t ↔ HasTightSide a p pair)
side_b (Ok t) a p pair f e first second = (λ h. inr (second.0 h), λ s. by_side s)
  where
    by_side : HasTightSide a p pair → IsTrue t
    by_side (inl h) = absurd (false≢true (sym e ∙ first.1 h))
    by_side (inr h) = second.1 h
side_b (Err x) a p pair f e first second = second

pub loose_found : (a : Instance) (q : Point) (k : ℕ) (t : Bool) → k < length a.pairs → t ≡ false → ((p : points.Point a.columns) → Means q p → IsTrue t ↔ HasTightSide a p k) → ((j : ℕ) → j < k → Has a q (λ p. HasTightSide a p j)) → IsFirstLoose a q k
loose_found a q k t inside e tells each = record { named = inside; loose = λ p means tight. false≢true (sym e ∙ (tells p means).1 tight); first = each }

pub tight_more : (a : Instance) (q : Point) (k : ℕ) (t : Bool) → t ≡ true → ((p : points.Point a.columns) → Means q p → IsTrue t ↔ HasTightSide a p k) → ((j : ℕ) → j < k → Has a q (λ p. HasTightSide a p j)) → (j : ℕ) → j < k + 1 → Has a q (λ p. HasTightSide a p j)
tight_more a q k t e tells each j lt p means = elim (cases_lt j k) [
  | inl below ↦ each j below p means
  | inr past ↦ let is : k ≡ j = omega (arith, past, lt) in subst (HasTightSide a p) is ((tells p means).0 e)
]

pub all_tight : (a : Instance) (q : Point) (n : ℕ) → length a.pairs ≤ n → ((j : ℕ) → j < n → Has a q (λ p. HasTightSide a p j)) → Has a q (IsComplementary a)
all_tight a q n all each p means k d inside =
    let same : pair_at a k ≡ get_or a.pairs k d = get_or_default a.pairs k (length a.constraints, length a.constraints) d inside in
    subst (λ x. IsTight p (constraint_at a x.0) ⊎ IsTight p (constraint_at a x.1)) same (each k (omega (arith, inside, all)) p means)
