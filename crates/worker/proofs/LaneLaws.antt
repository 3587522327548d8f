-- What a look at a lane leaves true of what a worker has read.
use Rattle.std.proofs.Common.{ℕ, ℤ, ◌+◌, ◌<◌, ◌≤◌, ◌≡◌, ◌≢◌, refl, sym, ap, ◌∙◌, subst, arith, List, [], ◌∷◌, ◌++◌, length, drop, Bool, true, false, ⊎_elim, length-append, All, Some, None}
use Rattle.std.specs.Prelude.{Option, slice_get, is_some}
use Rattle.std.proofs.lemmas.Bool.{cases_eq}
use Rattle.std.proofs.lemmas.List.{drop-append-le, get_or_append_left, length-drop}
use Rattle.std.proofs.lemmas.List.Elements.{All-push}
use Rattle.std.proofs.lemmas.Option.{get_or_from_slice_get, slice_get-get_or, slice_get_within}
use Rattle.std.proofs.Math.Seq.{get_or-append_seam}
use Rattle.nogoods.specs.declared.choice.Side.{Side}
use Rattle.nogoods.specs.Pieces.{Bars}
use Rattle.lpcc_case.specs.Instance.{Instance}
use Rattle.lpcc_case.specs.declared.point.Point.{Point}
use Rattle.cuts.specs.declared.cut.Cut.{Cut}
use Rattle.cuts.specs.declared.cut.Cut.TheVariants as cut
use Rattle.cuts.specs.Cuts.{no_good_of}
use Rattle.cut_words.specs.Words.{AreWordsOf, IsInPlace}
use Rattle.cut_words.proofs.Readings.{one_cut}
use Rattle.cut_pool.specs.Lanes.{LaneView, given, NextOf}
use Rattle.cut_pool.specs.Reaches.{ReachView, SameButLane, lane_at}
use Rattle.reasons.specs.Reasons.{IsActiveAgainst}
use Rattle.play.specs.Lawful.{MayCut}
use Rattle.desk.specs.Settling.{IsGivenAt, IsRayCutAgainst, NoRayCutBars}
use Rattle.worker.specs.declared.noting.Barring.{Barring}
use Rattle.worker.specs.Reading.{AreDry, AreWithin, Finds, IsBarring, IsReading, Notes}

-- ---- one item

-- words of a cut that does not serve are no ray cut's that bars the piece
pub not_against : (a : Instance) (piece : List Side) (best : Option Point) (c : Cut) (words : List ℕ) → IsInPlace a c → AreWordsOf a c words → (Bars (no_good_of c) piece × IsActiveAgainst c best → ⊥) → IsRayCutAgainst a piece words → ⊥
not_against a piece best c words place are none ray =
    let P : Cut → Type 0 = λ d. Bars (no_good_of d) piece × IsActiveAgainst d best in
    let e : c ≡ cut.Ray ray.0 ray.1 = one_cut a c (cut.Ray ray.0 ray.1) words place are ray.2 ray.3 in
    none (subst P (sym e) (ray.4, tt))

-- ---- lanes

abbrev Clean : Instance → List Side → List ℕ → Type 0
Clean a piece words = IsRayCutAgainst a piece words → ⊥

abbrev SameAt : ReachView → ReachView → ℕ → Type 0
SameAt r s k = ((lane_at s k).at_ready ≡ (lane_at r k).at_ready) × (given (lane_at s k) ≡ given (lane_at r k))

same_at : (r s : ReachView) (lane : ℕ) → SameButLane r s lane → (k : ℕ) → k ≢ lane → SameAt r s k
same_at r s lane S k n = (ap (λ (l : LaneView). l.at_ready) (S.others k n), ap (λ (l : LaneView). given l) (S.others k n))

-- the lane of this number has these words behind what it had
record More (r s : ReachView) (lane : ℕ) (words : List ℕ) : Type 0 where
  same : SameButLane r s lane
  ready : (lane_at s lane).at_ready ≡ (lane_at r lane).at_ready
  more : given (lane_at s lane) ≡ given (lane_at r lane) ++ words ∷ []

drop_push : (n : ℕ) (l : List (List ℕ)) (w : List ℕ) → n ≤ length l → drop n (l ++ w ∷ []) ≡ drop n l ++ w ∷ []
drop_push n l w h = drop-append-le n l (w ∷ []) h

get_push : (l : List (List ℕ)) (w v : List ℕ) (k : ℕ) → slice_get l k ≡ Some v → slice_get (l ++ w ∷ []) k ≡ Some v
get_push l w v k e =
    let inside : k < length l = slice_get_within l k v e in
    slice_get-get_or (l ++ w ∷ []) k v (omega (arith, inside, length-append l (w ∷ []))) ∙ ap (λ (x : List ℕ). Some x) (get_or_append_left l (w ∷ []) v k inside ∙ get_or_from_slice_get l k v v e)

get_last : (l : List (List ℕ)) (w : List ℕ) → slice_get (l ++ w ∷ []) (length l) ≡ Some w
get_last l w = slice_get-get_or (l ++ w ∷ []) (length l) w (omega (arith, length-append l (w ∷ []))) ∙ ap (λ (x : List ℕ). Some x) (get_or-append_seam l w [] w)

clean_push : (P : List ℕ → Type 0) (n : ℕ) (l : List (List ℕ)) (w : List ℕ) → n ≤ length l → All P (drop n l) → P w → All P (drop n (l ++ w ∷ []))
clean_push P n l w h all p = subst (λ (x : List (List ℕ)). All P x) (sym (drop_push n l w h)) (All-push P (drop n l) w all p)

marks_more : (r s : ReachView) (lane : ℕ) (words : List ℕ) → More r s lane words → AreWithin r → AreWithin s
marks_more r s lane words M A k h =
    let before = A k (omega (arith, h, M.same.count)) in
    ⊎_elim
    (λ (e : k ≡ lane).
    let at : (lane_at s k).at_ready ≡ (lane_at r k).at_ready = subst (λ (j : ℕ). (lane_at s j).at_ready ≡ (lane_at r j).at_ready) (sym e) M.ready in
    let all : given (lane_at s k) ≡ given (lane_at r k) ++ words ∷ [] = subst (λ (j : ℕ). given (lane_at s j) ≡ given (lane_at r j) ++ words ∷ []) (sym e) M.more in
    omega (arith, before, at, ap length all, length-append (given (lane_at r k)) (words ∷ [])))
    (λ (n : k ≢ lane). let t = same_at r s lane M.same k n in omega (arith, before, t.0, ap length t.1))
    (cases_eq k lane)

none_more : (a : Instance) (piece : List Side) (r s : ReachView) (lane : ℕ) (words : List ℕ) → More r s lane words → r.case ≡ a → AreWithin r → NoRayCutBars r piece → Clean a piece words → NoRayCutBars s piece
none_more a piece r s lane words M is A none clean k h other =
    let P : List ℕ → Type 0 = Clean a piece in
    let inside : k < length r.lanes = omega (arith, h, M.same.count) in
    let apart : k ≢ r.worker = λ e. other (e ∙ sym M.same.worker) in
    let before : All P (drop (lane_at r k).at_ready (given (lane_at r k))) = subst (λ (b : Instance). All (Clean b piece) (drop (lane_at r k).at_ready (given (lane_at r k)))) is (none k inside apart) in
    let now : All P (drop (lane_at s k).at_ready (given (lane_at s k))) = ⊎_elim
    (λ (e : k ≡ lane).
    let at : (lane_at s k).at_ready ≡ (lane_at r k).at_ready = subst (λ (j : ℕ). (lane_at s j).at_ready ≡ (lane_at r j).at_ready) (sym e) M.ready in
    let all : given (lane_at s k) ≡ given (lane_at r k) ++ words ∷ [] = subst (λ (j : ℕ). given (lane_at s j) ≡ given (lane_at r j) ++ words ∷ []) (sym e) M.more in
    subst (λ (n : ℕ). All P (drop n (given (lane_at s k)))) (sym at) (subst (λ (x : List (List ℕ)). All P (drop (lane_at r k).at_ready x)) (sym all) (clean_push P (lane_at r k).at_ready (given (lane_at r k)) words (A k inside) before clean)))
    (λ (n : k ≢ lane).
    let t = same_at r s lane M.same k n in
    subst (λ (m : ℕ). All P (drop m (given (lane_at s k)))) (sym t.0) (subst (λ (x : List (List ℕ)). All P (drop (lane_at r k).at_ready x)) (sym t.1) before))
    (cases_eq k lane) in
    subst (λ (b : Instance). All (Clean b piece) (drop (lane_at s k).at_ready (given (lane_at s k)))) (sym (M.same.case ∙ is)) now

given_more : (r s : ReachView) (lane at place : ℕ) (c : Cut) (words : List ℕ) → More r s lane words → IsGivenAt r at place c → IsGivenAt s at place c
given_more r s lane at place c words M G =
    let there : slice_get (given (lane_at s at)) place ≡ Some G.0 = ⊎_elim
    (λ (e : at ≡ lane).
    let all : given (lane_at s at) ≡ given (lane_at r at) ++ words ∷ [] = subst (λ (j : ℕ). given (lane_at s j) ≡ given (lane_at r j) ++ words ∷ []) (sym e) M.more in
    ap (λ (x : List (List ℕ)). slice_get x place) all ∙ get_push (given (lane_at r at)) words G.0 place G.1)
    (λ (n : at ≢ lane). ap (λ (x : List (List ℕ)). slice_get x place) (same_at r s lane M.same at n).1 ∙ G.1)
    (cases_eq at lane) in
    (G.0, there, subst (λ (b : Instance). AreWordsOf b c G.0) (sym M.same.case) G.2)

barring_more : (a : Instance) (piece : List Side) (best : Option Point) (r s : ReachView) (lane : ℕ) (words : List ℕ) (b : Barring) → More r s lane words → IsBarring a piece best r b → IsBarring a piece best s b
barring_more a piece best r s lane words b M B = record {
  other = λ e. B.other (e ∙ M.same.worker);
  known = omega (arith, B.known, M.same.count);
  given = given_more r s lane b.lane b.place b.cut words M B.given;
  may = B.may;
}

-- a cut that was found stays noted
pub notes_same : (a : Instance) (piece : List Side) (best : Option Point) (words : List ℕ) (lane place : ℕ) (found : Option Barring) → is_some found ≡ true → Notes a piece best words lane place found found
notes_same a piece best words lane place None there = absurd (cc)
notes_same a piece best words lane place (Some b) there = refl

finds_more : (a : Instance) (piece : List Side) (best : Option Point) (r s : ReachView) (lane place : ℕ) (words : List ℕ) (old new : Option Barring) → lane ≢ r.worker → lane < length r.lanes → place ≡ length (given (lane_at r lane)) → More r s lane words → r.case ≡ a → AreWithin r → Notes a piece best words lane place old new → Finds a piece best r old → Finds a piece best s new
finds_more a piece best r s lane place words (Some b) new other inside at M is A note F =
    subst (λ (x : Option Barring). Finds a piece best s x) (sym note) (barring_more a piece best r s lane words b M F)
finds_more a piece best r s lane place words None None other inside at M is A note F = none_more a piece r s lane words M is A F note
finds_more a piece best r s lane place words None (Some b) other inside at M is A note F =
    let there : slice_get (given (lane_at s lane)) place ≡ Some words = ap (λ (x : List (List ℕ)). slice_get x place) M.more ∙ ap (λ (k : ℕ). slice_get (given (lane_at r lane) ++ words ∷ []) k) at ∙ get_last (given (lane_at r lane)) words in
    let here : slice_get (given (lane_at s b.lane)) b.place ≡ Some words = subst (λ (k : ℕ). slice_get (given (lane_at s k)) b.place ≡ Some words) (sym note.0) (subst (λ (k : ℕ). slice_get (given (lane_at s lane)) k ≡ Some words) (sym note.1) there) in
    record {
      other = λ e. other (sym note.0 ∙ e ∙ M.same.worker);
      known = omega (arith, inside, M.same.count, note.0);
      given = (words, here, subst (λ (i : Instance). AreWordsOf i b.cut words) (sym (M.same.case ∙ is)) note.2);
      may = note.3;
    }

-- an item was read and noted
pub read_more : (a : Instance) (piece : List Side) (best : Option Point) (r s : ReachView) (lane place : ℕ) (into words : List ℕ) (answer : Bool) (old new : Option Barring) → lane ≢ r.worker → lane < length r.lanes → place ≡ length (given (lane_at r lane)) → answer ≡ true → SameButLane r s lane → NextOf (lane_at r lane) (lane_at s lane) into words answer → Notes a piece best words lane place old new → IsReading a piece best r old → IsReading a piece best s new
read_more a piece best r s lane place into words answer old new other inside at came S N note R =
    let M : More r s lane words = record { same = S; ready = N.ready; more = N.more came } in
    record {
      case = S.case ∙ R.case;
      marks = marks_more r s lane words M R.marks;
      finds = finds_more a piece best r s lane place words old new other inside at M R.case R.marks note R.finds;
    }

-- ---- the end of a lane

-- what was read stays where no item came
pub read_end : (a : Instance) (piece : List Side) (best : Option Point) (r s : ReachView) (lane : ℕ) (into words : List ℕ) (answer : Bool) (found : Option Barring) → (answer ≡ true → ⊥) → SameButLane r s lane → NextOf (lane_at r lane) (lane_at s lane) into words answer → IsReading a piece best r found → IsReading a piece best s found
read_end a piece best r s lane into words answer found none S N R = record {
  case = S.case ∙ R.case;
  marks = λ k h. let t = all k in omega (arith, R.marks k (omega (arith, h, S.count)), t.0, ap length t.1);
  finds = go found R.finds;
}
  where
    all : (k : ℕ) → SameAt r s k
    all k = ⊎_elim
        (λ (e : k ≡ lane). subst (λ (j : ℕ). SameAt r s j) (sym e) (N.ready, (N.same none).0))
        (λ (n : k ≢ lane). same_at r s lane S k n)
        (cases_eq k lane)

    given_still : (at place : ℕ) (c : Cut) → IsGivenAt r at place c → IsGivenAt s at place c
    given_still at place c G = (G.0, ap (λ (x : List (List ℕ)). slice_get x place) (all at).1 ∙ G.1, subst (λ (b : Instance). AreWordsOf b c G.0) (sym S.case) G.2)

    go : (f : Option Barring) → Finds a piece best r f → Finds a piece best s f
    go None F = λ k h other.
        let t = all k in
        let before = F k (omega (arith, h, S.count)) (λ e. other (e ∙ sym S.worker)) in
        subst (λ (b : Instance). All (Clean b piece) (drop (lane_at s k).at_ready (given (lane_at s k)))) (sym S.case)
        (subst (λ (m : ℕ). All (Clean r.case piece) (drop m (given (lane_at s k)))) (sym t.0) (subst (λ (x : List (List ℕ)). All (Clean r.case piece) (drop (lane_at r k).at_ready x)) (sym t.1) before))
    go (Some b) F = record {
      other = λ e. F.other (e ∙ S.worker);
      known = omega (arith, F.known, S.count);
      given = given_still b.lane b.place b.cut F.given;
      may = F.may;
    }

-- the lanes before this one stay read to their end
pub dry_on : (r s : ReachView) (lane : ℕ) → SameButLane r s lane → AreDry r lane → AreDry s lane
dry_on r s lane S D k h other =
    let apart : k ≢ lane = λ e. absurd (omega (arith, e, h)) in
    ap (λ (l : LaneView). l.dry) (S.others k apart) ∙ D k h (λ e. other (e ∙ sym S.worker))

-- so is this one where no item came
pub dry_here : (r s : ReachView) (lane : ℕ) → SameButLane r s lane → AreDry r lane → (lane_at s lane).dry ≡ true → AreDry s (lane + 1)
dry_here r s lane S D here k h other = ⊎_elim
    (λ (e : k ≡ lane). subst (λ (j : ℕ). (lane_at s j).dry ≡ true) (sym e) here)
    (λ (n : k ≢ lane). dry_on r s lane S D k (omega (arith, h, n)) other)
    (cases_eq k lane)

pub ruleset dry_laws = (dry_on, dry_here)
