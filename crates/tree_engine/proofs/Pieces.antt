-- Pieces whose choices are a path.
use Rattle.std.proofs.Common.{ℕ, ◌+◌, ◌<◌, ◌≡◌, sym, ap, ◌∙◌, subst, arith, List, [], ◌∷◌, ◌++◌, length, get_or, map, take, Some}
use Rattle.std.specs.Prelude.{Contains, slice_get}
use Rattle.std.proofs.lemmas.List.{length-map, take_more}
use Rattle.std.proofs.lemmas.List.Elements.{All-contains}
use Rattle.std.proofs.lemmas.Option.{slice_get_within, slice_get-get_or, get_or_from_slice_get}
use Rattle.std.proofs.Math.ListN.{get_or-map}
use Rattle.nogoods.specs.declared.choice.Choice.{Choice}
use Rattle.nogoods.specs.declared.choice.Side.{Side}
use Rattle.nogoods.specs.Pieces.{IsChoiceOf}
use Rattle.lpcc_case.specs.Instance.{Instance, chosen}
use Rattle.lpcc_case.specs.Points as points
use Rattle.lpcc_case.specs.Points.{IsTight, IsTightAt}
use Rattle.lpcc_case.specs.Pieces.{LiesIn}
use Rattle.lpcc_case.specs.declared.point.Point.{Point}
use Rattle.lpcc_case.specs.declared.point.Ray.{Ray}
use Rattle.cert_check.specs.Acceptance.{IsWholePiece}
use Rattle.cert_check.proofs.Following.{falls_below, whole_at, whole_size}
use Rattle.lpcc_case.specs.Verdicts.{IsUnbounded}
use Rattle.lpcc_case.proofs.Meanings.{means_one}
use Rattle.walks.specs.Ends.{IsPointAt, IsRayAt}
use Rattle.tree_engine.specs.Answers.{IsDirection}
use Rattle.tree_engine.specs.Paths.{side_of}
use Rattle.tree_engine.proofs.Lists.{map_push}
use Rattle.tree_engine.proofs.LoosePairs.{choice_is}
use Rattle.tree_engine.proofs.Visits.{met_for, tight_for}

-- a choice of the piece is on the path
on_path : (a : Instance) (piece : List Side) (path : List Choice) (c : Choice) → IsWholePiece a path → piece ≡ map side_of path → IsChoiceOf piece c → Contains path c
on_path a piece path c whole sides chosen_there =
    let inside : c.pair < length piece = slice_get_within piece c.pair c.side chosen_there in
    let size : length piece ≡ length path = ap length sides ∙ length-map path side_of in
    let within : c.pair < length path = omega (arith, inside, size) in
    let x = get_or path c.pair c in
    let side : x.side ≡ c.side = sym (get_or-map side_of path c.pair c) ∙ ap (λ s. get_or s c.pair c.side) (sym sides) ∙ get_or_from_slice_get piece c.pair c.side c.side chosen_there in
    (c.pair, within, choice_is x c (whole_at a path c.pair c whole (omega (arith, within, whole_size a path whole))) side)

pub lies_in : (a : Instance) (piece : List Side) (path : List Choice) (q : Point) (p : points.Point a.columns) → IsWholePiece a path → piece ≡ map side_of path → IsPointAt a path q → Rattle.lpcc_case.specs.NarrowPoints.Means q p → LiesIn a piece p
lies_in a piece path q p whole sides at means = record {
  met = met_for a path q p at means;
  tight = λ c there_is. All-contains (λ d. IsTight p (chosen a d)) path c (tight_for a path q p at means) (on_path a piece path c whole sides there_is);
}

pub direction : (a : Instance) (piece : List Side) (path : List Choice) (q : Point) (ray : Ray) → IsWholePiece a path → piece ≡ map side_of path → IsPointAt a path q → IsRayAt a path ray → IsDirection a piece q ray
direction a piece path q ray whole sides at away = record {
  choices = path;
  are = record { pairs = whole; sides = sides };
  point_of = at.numbers;
  numbers = away.numbers;
  lies = λ p means. lies_in a piece path q p whole sides at means;
  recedes = away.recedes;
}

-- ---- what a direction shows

chosen_side : (a : Instance) (piece : List Side) (path : List Choice) (k : ℕ) (d : Choice) → IsWholePiece a path → piece ≡ map side_of path → k < length path → IsChoiceOf piece (get_or path k d)
chosen_side a piece path k d whole sides inside =
    let c = get_or path k d in
    let size : length piece ≡ length path = ap length sides ∙ length-map path side_of in
    let there_is : slice_get piece k ≡ Some (get_or piece k d.side) = slice_get-get_or piece k d.side (omega (arith, inside, size)) in
    let read : get_or piece k d.side ≡ c.side = ap (λ s. get_or s k d.side) sides ∙ get_or-map side_of path k d in
    let at : c.pair ≡ k = whole_at a path k d whole (omega (arith, inside, whole_size a path whole)) in
    subst (λ m. slice_get piece m ≡ Some c.side) (sym at) (there_is ∙ ap (λ s. Some s) read)

pub tight_in_piece : (a : Instance) (piece : List Side) (path : List Choice) (p : points.Point a.columns) → IsWholePiece a path → piece ≡ map side_of path → LiesIn a piece p → IsTightAt a p path
tight_in_piece a piece path p whole sides lies k d inside = lies.tight (get_or path k d) (chosen_side a piece path k d whole sides inside)

pub direction_shows : (a : Instance) (piece : List Side) (q : Point) (ray : Ray) → IsDirection a piece q ray → IsUnbounded a
direction_shows a piece q ray h bound =
    let meant = means_one a q h.point_of.fits in
    let lies = h.lies meant.0 meant.1 in
    falls_below a h.choices meant.0 ray.r bound h.are.pairs lies.met (tight_in_piece a piece h.choices meant.0 h.are.pairs h.are.sides lies) h.recedes

-- ---- the sides of a path, one more

pub side_more : (choices : List Choice) (at : ℕ) (s : Side) (made new : List Side) (d : Choice) → at < length choices → s ≡ side_of (get_or choices at d) → made ≡ map side_of (take at choices) → new ≡ made ++ s ∷ [] → new ≡ map side_of (take (at + 1) choices)
side_more choices at s made new d inside is so_far added =
    added ∙ ap (λ m. m ++ s ∷ []) so_far ∙ ap (λ y. map side_of (take at choices) ++ y ∷ []) is
    ∙ sym (map_push side_of (take at choices) (get_or choices at d)) ∙ ap (λ l. map side_of l) (sym (take_more choices at d inside))
