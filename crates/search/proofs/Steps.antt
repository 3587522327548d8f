-- Each step of the walk.
use Rattle.std.proofs.Common.{ℕ, ◌+◌, ◌<◌, ◌≤◌, ◌≡◌, refl, sym, ap, ◌∙◌, subst, arith, Bool, true, false, IsTrue, List, [], ◌∷◌, ◌++◌, length, get_or, take, Some}
use Rattle.std.specs.Prelude.{All}
use Rattle.std.specs.List.{AllByRecursion}
use Rattle.std.proofs.lemmas.List.{get_or_read, length-append, length-take-le, get_or_append_left, get_or-take, get_or_at, take_more, take_all}
use Rattle.std.proofs.lemmas.List.Elements.{All-from_recursion}
use Rattle.std.proofs.lemmas.Option.{slice_get_within, slice_get-get_or, get_or_from_slice_get}
use Rattle.lp_base.proofs.Rises.{ascends_below, ascends_tail}
use Rattle.nogoods.specs.declared.choice.Choice.{Choice}
use Rattle.nogoods.specs.declared.choice.Side.{Side}
use Rattle.nogoods.specs.declared.choice.Side.TheVariants.{A, B}
use Rattle.nogoods.specs.Choices.{pair_of, pairs_ascend}
use Rattle.nogoods.specs.Pieces.{IsChoiceOf, Bars}
use Rattle.derivation.specs.HintRuns.{NamesBelow}
use Rattle.search.specs.declared.walk.Reason.{Reason}
use Rattle.search.specs.declared.walk.Reason.TheVariants.{By, BlockedPieces}
use Rattle.search.specs.declared.walk.Resolvent.{Resolvent}
use Rattle.search.specs.declared.walk.Phase.{Phase}
use Rattle.search.specs.declared.walk.Phase.TheVariants.{Open, Turn, Exhausted, Resolved}
use Rattle.search.specs.Growth.{Adds}
use Rattle.search.specs.Chosen.{chosen}
use Rattle.search.specs.Walks.{Closes, IsResolvent, Witnessed, AllExhausted, IsExhausted, BarsNext, EndsIn, ExhaustsA, IsWalk, GoesOn, moments_left}
use Rattle.search.proofs.Moments.{open_to_a, open_to_turn, turn_to_b, turn_to_closed, exhausted_to_turn, exhausted_to_closed, resolved_to_closed, resolved_to_turn, resolved_to_resolved}
use Rattle.search.proofs.Resolving.{less_resolvent, resolvent_bars_a, resolvent_exhausts}
use Rattle.search.proofs.WalkLaws.{next_bars, exhausted_by, exhausted_both, turn_exhausted, walk_push, walk_take, walk_onwards, b_exhausts}

goes_at : (fresh : Bool) (n : ℕ) (ngs : List (List Choice)) (blocked : List (List Side)) (w x : List Side) (reasons xs : List Reason) (next : Phase) (before : ℕ) → x ≡ w → xs ≡ reasons → GoesOn fresh n ngs blocked w reasons next before → GoesOn fresh n ngs blocked x xs next before
goes_at fresh n ngs blocked w x reasons xs next before e f g =
    let P : List Side → Type 0 = λ l. GoesOn fresh n ngs blocked l reasons next before in
    let Q : List Reason → Type 0 = λ l. GoesOn fresh n ngs blocked x l next before in
    subst Q (sym f) (subst P (sym e) g)

pub open_turns : (fresh : Bool) (n : ℕ) (ngs : List (List Choice)) (blocked : List (List Side)) (w u : List Side) (reasons : List Reason) (k : ℕ) → IsWalk fresh n ngs blocked w reasons → length w < n → u ≡ w → (k < length ngs) × BarsNext u A (get_or ngs k []) → GoesOn fresh n ngs blocked w reasons (Turn (By k)) (moments_left n w Open)
open_turns fresh n ngs blocked w u reasons k h short e bars =
    let P : List Side → Type 0 = λ l. BarsNext l A (get_or ngs k []) in
    record { kept = h; here = (short, (bars.0, subst P e bars.1)); less = open_to_turn w n (By k) short }

pub open_chooses : (fresh : Bool) (n : ℕ) (ngs : List (List Choice)) (blocked : List (List Side)) (w x : List Side) (reasons xs : List Reason) (reason : Reason) → IsWalk fresh n ngs blocked w reasons → length w < n → x ≡ w ++ A ∷ [] → xs ≡ reasons ++ reason ∷ [] → GoesOn fresh n ngs blocked x xs Open (moments_left n w Open)
open_chooses fresh n ngs blocked w x reasons xs reason h short e f =
    goes_at fresh n ngs blocked (w ++ A ∷ []) x (reasons ++ reason ∷ []) xs Open (moments_left n w Open) e f record { kept = walk_push fresh n ngs blocked w reasons A reason h short tt; here = tt; less = open_to_a w n short }

pub turn_chooses : (fresh : Bool) (n : ℕ) (ngs : List (List Choice)) (blocked : List (List Side)) (w x : List Side) (reasons xs : List Reason) (reason : Reason) → IsWalk fresh n ngs blocked w reasons → length w < n → ExhaustsA fresh n ngs blocked w reason → x ≡ w ++ B ∷ [] → xs ≡ reasons ++ reason ∷ [] → GoesOn fresh n ngs blocked x xs Open (moments_left n w (Turn reason))
turn_chooses fresh n ngs blocked w x reasons xs reason h short exhausted e f =
    goes_at fresh n ngs blocked (w ++ B ∷ []) x (reasons ++ reason ∷ []) xs Open (moments_left n w (Turn reason)) e f record { kept = walk_push fresh n ngs blocked w reasons B reason h short exhausted; here = tt; less = turn_to_b w n reason short }

pub turn_closes : (fresh : Bool) (n : ℕ) (ngs : List (List Choice)) (blocked : List (List Side)) (w u : List Side) (reasons : List Reason) (reason : Reason) (next : Phase) → IsWalk fresh n ngs blocked w reasons → u ≡ w → Closes fresh n ngs blocked u next → GoesOn fresh n ngs blocked w reasons next (moments_left n w (Turn reason))
turn_closes fresh n ngs blocked w u reasons reason next h e closes =
    let P : List Side → Type 0 = λ l. Closes fresh n ngs blocked l next in
    let here : P w = subst P e closes in
    record { kept = h; here = here.0; less = turn_to_closed w n reason next here.1 }

exhausted_closes : (fresh : Bool) (n : ℕ) (ngs : List (List Choice)) (blocked : List (List Side)) (w : List Side) → IsExhausted n ngs blocked w → Witnessed fresh n ngs blocked → Closes fresh n ngs blocked w (Exhausted BlockedPieces)
exhausted_closes fresh n ngs blocked w exhausted witness = ((exhausted, witness), omega arith)

pub blocked_closes : (fresh : Bool) (n : ℕ) (ngs : List (List Choice)) (blocked : List (List Side)) (w : List Side) (k : ℕ) → length w < n → ExhaustsA fresh n ngs blocked w BlockedPieces → (k < length ngs) × BarsNext w B (get_or ngs k []) → Closes fresh n ngs blocked w (Exhausted BlockedPieces)
blocked_closes fresh n ngs blocked w k short first second =
    exhausted_closes fresh n ngs blocked w (exhausted_both n ngs blocked w short first.0 (exhausted_by n ngs blocked (w ++ B ∷ []) k second.0 (next_bars w B (get_or ngs k []) second.1))) first.1

pub blocked_resolves : (fresh : Bool) (n : ℕ) (ngs : List (List Choice)) (blocked : List (List Side)) (w : List Side) (marks : List Bool) (hints : List ℕ) → length w < n → All (NamesBelow n) ngs → ExhaustsA fresh n ngs blocked w BlockedPieces → IsResolvent ngs (w ++ B ∷ []) marks hints → Closes fresh n ngs blocked w (Exhausted BlockedPieces)
blocked_resolves fresh n ngs blocked w marks hints short named first r =
    exhausted_closes fresh n ngs blocked w (exhausted_both n ngs blocked w short first.0 (resolvent_exhausts n ngs blocked (w ++ B ∷ []) marks hints named r)) first.1

pub resolvent_ends : (fresh : Bool) (n : ℕ) (ngs : List (List Choice)) (blocked : List (List Side)) (w : List Side) (r : Resolvent) → IsResolvent ngs w r.marks.items r.hints.items → Closes fresh n ngs blocked w (Resolved r)
resolvent_ends fresh n ngs blocked w r is = (is, omega arith)

-- ---- back to the last choice of a step

below_last : (front : List Choice) (c : Choice) → IsTrue (pairs_ascend (front ++ c ∷ [])) → AllByRecursion (λ d. d.pair < c.pair) front
below_last [] c rises = tt
below_last (x ∷ front) c rises =
    let at : get_or (front ++ c ∷ []) (length front) x ≡ c = get_or_at front c [] x (length front) refl in
    let low : pair_of x < pair_of (get_or (front ++ c ∷ []) (length front) x) = ascends_below pair_of x (front ++ c ∷ []) (length front) x rises (omega (arith, length-append front (c ∷ []))) in
    let P : Choice → Type 0 = λ d. x.pair < d.pair in
    (subst P at low, below_last front c (ascends_tail pair_of x (front ++ c ∷ []) rises))

kept_below : (w : List Side) (q : ℕ) (d : Choice) → q ≤ length w → IsChoiceOf w d → d.pair < q → IsChoiceOf (take q w) d
kept_below w q d low is below =
    let within : d.pair < length (take q w) = omega (arith, length-take-le q w low) in
    slice_get-get_or (take q w) d.pair A within ∙ ap (λ s. Some s) (get_or-take q w d.pair A below ∙ get_or_from_slice_get w d.pair d.side A is)

front_of : (w : List Side) (front : List Choice) (c : Choice) (k : ℕ) (d : Choice) → k < length front → Bars (front ++ c ∷ []) w → IsChoiceOf w (get_or front k d)
front_of w front c k d here whole =
    let R : Choice → Type 0 = λ x. IsChoiceOf w x in
    subst R (get_or_append_left front (c ∷ []) d k here) (whole k d (omega (arith, length-append front (c ∷ []))))

pub last_is : (w : List Side) (c : Choice) (cs : List Choice) → EndsIn c cs → Bars cs w → (c.pair < length w) × (get_or w c.pair A ≡ c.side) × BarsNext (take c.pair w) c.side cs
last_is w c cs e bars =
    let P : List Choice → Type 0 = λ l. Bars l w in
    let Q : List Choice → Type 0 = λ l. IsTrue (pairs_ascend l) in
    let whole : Bars (e.front ++ c ∷ []) w = subst P e.ends bars in
    let R : Choice → Type 0 = λ d. IsChoiceOf w d in
    let within : length e.front < length (e.front ++ c ∷ []) = omega (arith, length-append e.front (c ∷ [])) in
    let own : IsChoiceOf w c = subst R (get_or_at e.front c [] c (length e.front) refl) (whole (length e.front) c within) in
    let inside : c.pair < length w = slice_get_within w c.pair c.side own in
    let size : length (take c.pair w) ≡ c.pair = length-take-le c.pair w (omega arith) in
    let low = All-from_recursion (λ d. d.pair < c.pair) e.front (below_last e.front c (subst Q e.ends e.ascends)) in
    let made : ℕ → Choice = λ k. record { pair = k; side = c.side } in (
      inside,
      get_or_from_slice_get w c.pair c.side A own,
      record {
        front = e.front;
        ends = e.ends ∙ ap (λ k. e.front ++ made k ∷ []) (sym size);
        held = λ k d here. kept_below w c.pair (get_or e.front k d) (omega arith) (front_of w e.front c k d here whole) (low k d here);
      },
    )

pub back_turns : (fresh : Bool) (n : ℕ) (ngs : List (List Choice)) (blocked : List (List Side)) (w x : List Side) (reasons xs : List Reason) (k : ℕ) (c : Choice) → IsWalk fresh n ngs blocked w reasons → k < length ngs → Bars (get_or ngs k []) w → EndsIn c (get_or ngs k []) → c.side ≡ A → x ≡ take c.pair w → xs ≡ take c.pair reasons → GoesOn fresh n ngs blocked x xs (Turn (By k)) (moments_left n w (Exhausted (By k)))
back_turns fresh n ngs blocked w x reasons xs k c h within bars e side ex exs =
    let at = last_is w c (get_or ngs k []) e bars in
    let size : length (take c.pair w) ≡ c.pair = length-take-le c.pair w (omega (arith, at.0)) in
    let P : Side → Type 0 = λ s. BarsNext (take c.pair w) s (get_or ngs k []) in
    goes_at fresh n ngs blocked (take c.pair w) x (take c.pair reasons) xs (Turn (By k)) (moments_left n w (Exhausted (By k))) ex exs record {
      kept = walk_take fresh n ngs blocked w reasons c.pair h (omega (arith, at.0));
      here = (omega (arith, at.0, h.fits), (within, subst P side at.2));
      less = exhausted_to_turn w n c.pair (By k) (By k) at.0 h.fits (at.1 ∙ side);
    }

-- what is known where the last choice is a B
pub back_at_b : (fresh : Bool) (n : ℕ) (ngs : List (List Choice)) (blocked : List (List Side)) (w x : List Side) (reasons : List Reason) (k : ℕ) (c : Choice) → IsWalk fresh n ngs blocked w reasons → k < length ngs → Bars (get_or ngs k []) w → EndsIn c (get_or ngs k []) → c.side ≡ B → x ≡ take c.pair w → (length x < n) × ExhaustsA fresh n ngs blocked x (get_or reasons c.pair BlockedPieces) × BarsNext x B (get_or ngs k [])
back_at_b fresh n ngs blocked w x reasons k c h within bars e side ex =
    let at = last_is w c (get_or ngs k []) e bars in
    let size : length (take c.pair w) ≡ c.pair = length-take-le c.pair w (omega (arith, at.0)) in
    let P : Side → Type 0 = λ s. BarsNext (take c.pair w) s (get_or ngs k []) in
    let Q : List Side → Type 0 = λ l. (length l < n) × ExhaustsA fresh n ngs blocked l (get_or reasons c.pair BlockedPieces) × BarsNext l B (get_or ngs k []) in
    subst Q (sym ex) (omega (arith, at.0, h.fits), b_exhausts fresh n ngs blocked w reasons c.pair h at.0 (at.1 ∙ side), subst P side at.2)

pub back_closes : (fresh : Bool) (n : ℕ) (ngs : List (List Choice)) (blocked : List (List Side)) (w x u : List Side) (reasons xs : List Reason) (k : ℕ) (c : Choice) (next : Phase) → IsWalk fresh n ngs blocked w reasons → Bars (get_or ngs k []) w → EndsIn c (get_or ngs k []) → c.side ≡ B → x ≡ take c.pair w → xs ≡ take c.pair reasons → u ≡ x → Closes fresh n ngs blocked u next → GoesOn fresh n ngs blocked x xs next (moments_left n w (Exhausted (By k)))
back_closes fresh n ngs blocked w x u reasons xs k c next h bars e side ex exs eu closes =
    let at = last_is w c (get_or ngs k []) e bars in
    let P : List Side → Type 0 = λ l. Closes fresh n ngs blocked l next in
    let here : P (take c.pair w) = subst P (eu ∙ ex) closes in
    goes_at fresh n ngs blocked (take c.pair w) x (take c.pair reasons) xs next (moments_left n w (Exhausted (By k))) ex exs record {
      kept = walk_take fresh n ngs blocked w reasons c.pair h (omega (arith, at.0));
      here = here.0;
      less = exhausted_to_closed w n c.pair (By k) next at.0 h.fits (at.1 ∙ side) here.1;
    }

-- ---- back by one pair

cut_last : (w : List Side) (q : ℕ) (s : Side) → q + 1 ≡ length w → get_or w q A ≡ s → w ≡ take q w ++ s ∷ []
cut_last w q s e side = sym (take_all (q + 1) w (omega arith)) ∙ take_more w q A (omega arith) ∙ ap (λ x. take q w ++ x ∷ []) side

pub blocked_turns : (fresh : Bool) (n : ℕ) (ngs : List (List Choice)) (blocked : List (List Side)) (w x : List Side) (reasons xs : List Reason) (q : ℕ) → IsWalk fresh n ngs blocked w reasons → IsExhausted n ngs blocked w → Witnessed fresh n ngs blocked → q + 1 ≡ length w → get_or w q A ≡ A → x ≡ take q w → xs ≡ take q reasons → GoesOn fresh n ngs blocked x xs (Turn BlockedPieces) (moments_left n w (Exhausted BlockedPieces))
blocked_turns fresh n ngs blocked w x reasons xs q h exhausted witness e side ex exs =
    let P : List Side → Type 0 = λ l. IsExhausted n ngs blocked l in
    let size : length (take q w) ≡ q = length-take-le q w (omega arith) in
    goes_at fresh n ngs blocked (take q w) x (take q reasons) xs (Turn BlockedPieces) (moments_left n w (Exhausted BlockedPieces)) ex exs record {
      kept = walk_take fresh n ngs blocked w reasons q h (omega arith);
      here = (omega (arith, h.fits), (subst P (cut_last w q A e side) exhausted, witness));
      less = exhausted_to_turn w n q BlockedPieces BlockedPieces (omega arith) h.fits side;
    }

pub blocked_exhausts : (fresh : Bool) (n : ℕ) (ngs : List (List Choice)) (blocked : List (List Side)) (w x : List Side) (reasons xs : List Reason) (q : ℕ) → IsWalk fresh n ngs blocked w reasons → IsExhausted n ngs blocked w → Witnessed fresh n ngs blocked → q + 1 ≡ length w → get_or w q A ≡ B → x ≡ take q w → xs ≡ take q reasons → GoesOn fresh n ngs blocked x xs (Exhausted BlockedPieces) (moments_left n w (Exhausted BlockedPieces))
blocked_exhausts fresh n ngs blocked w x reasons xs q h exhausted witness e side ex exs =
    let P : List Side → Type 0 = λ l. IsExhausted n ngs blocked l in
    let size : length (take q w) ≡ q = length-take-le q w (omega arith) in
    let one = turn_exhausted fresh n ngs blocked (take q w) (get_or reasons q BlockedPieces) (b_exhausts fresh n ngs blocked w reasons q h (omega arith) side) in
    let both = exhausted_both n ngs blocked (take q w) (omega (arith, h.fits)) one (subst P (cut_last w q B e side) exhausted) in
    goes_at fresh n ngs blocked (take q w) x (take q reasons) xs (Exhausted BlockedPieces) (moments_left n w (Exhausted BlockedPieces)) ex exs record {
      kept = walk_take fresh n ngs blocked w reasons q h (omega arith);
      here = (both, witness);
      less = exhausted_to_closed w n q BlockedPieces (Exhausted BlockedPieces) (omega arith) h.fits side (omega arith);
    }

pub blocked_ends : (n : ℕ) (ngs : List (List Choice)) (blocked : List (List Side)) (w : List Side) → length w ≡ 0 → IsExhausted n ngs blocked w → AllExhausted n ngs blocked
blocked_ends n ngs blocked [] e exhausted = λ p size. exhausted p size
blocked_ends n ngs blocked (s ∷ w) e exhausted = absurd (omega arith)

-- ---- back by one pair, where a resolvent bars the sides

cut_mark : (marks : List Bool) (q : ℕ) (m : Bool) → q + 1 ≡ length marks → get_or marks q false ≡ m → marks ≡ take q marks ++ m ∷ []
cut_mark marks q m e is = sym (take_all (q + 1) marks (omega arith)) ∙ take_more marks q false (omega arith) ∙ ap (λ x. take q marks ++ x ∷ []) is

-- the resolvent at the sides cut before their last
resolvent_cut : (ngs : List (List Choice)) (w : List Side) (marks : List Bool) (hints : List ℕ) (q : ℕ) (s : Side) (m : Bool) → IsResolvent ngs w marks hints → q + 1 ≡ length w → get_or w q A ≡ s → get_or marks q false ≡ m → IsResolvent ngs (take q w ++ s ∷ []) (take q marks ++ m ∷ []) hints
resolvent_cut ngs w marks hints q s m r e side mark =
    let P : List Side → Type 0 = λ l. IsResolvent ngs l marks hints in
    let Q : List Bool → Type 0 = λ l. IsResolvent ngs (take q w ++ s ∷ []) l hints in
    subst Q (cut_mark marks q m (e ∙ sym r.size) mark) (subst P (cut_last w q s e side) r)

pub past_goes : (fresh : Bool) (n : ℕ) (ngs : List (List Choice)) (blocked : List (List Side)) (w x : List Side) (reasons xs : List Reason) (q : ℕ) (r next : Resolvent) → IsWalk fresh n ngs blocked w reasons → q + 1 ≡ length w → IsResolvent ngs w r.marks.items r.hints.items → get_or r.marks.items q false ≡ false → x ≡ take q w → xs ≡ take q reasons → next.marks.items ≡ take q r.marks.items → next.hints.items ≡ r.hints.items → GoesOn fresh n ngs blocked x xs (Resolved next) (moments_left n w (Resolved r))
past_goes fresh n ngs blocked w x reasons xs q r next h e is unmarked ex exs em eh =
    let P : List Bool → Type 0 = λ l. IsResolvent ngs (take q w) l r.hints.items in
    let Q : List ℕ → Type 0 = λ l. IsResolvent ngs (take q w) next.marks.items l in
    let cut = less_resolvent ngs (take q w) (get_or w q A) (take q r.marks.items) r.hints.items (resolvent_cut ngs w r.marks.items r.hints.items q (get_or w q A) false is e refl unmarked) in
    goes_at fresh n ngs blocked (take q w) x (take q reasons) xs (Resolved next) (moments_left n w (Resolved r)) ex exs record {
      kept = walk_take fresh n ngs blocked w reasons q h (omega arith);
      here = subst Q (sym eh) (subst P (sym em) cut);
      less = resolved_to_resolved w n q r next (omega arith) h.fits;
    }

pub learned_turns : (fresh : Bool) (n : ℕ) (ngs more : List (List Choice)) (blocked : List (List Side)) (w x u : List Side) (reasons xs : List Reason) (q k : ℕ) (r : Resolvent) → Adds n ngs more → IsWalk fresh n ngs blocked w reasons → q + 1 ≡ length w → IsResolvent ngs w r.marks.items r.hints.items → get_or r.marks.items q false ≡ true → get_or w q A ≡ A → x ≡ take q w → xs ≡ take q reasons → u ≡ w → (k < length more) × (get_or more k [] ≡ chosen 0 r.marks.items u) → GoesOn fresh n more blocked x xs (Turn (By k)) (moments_left n w (Resolved r))
learned_turns fresh n ngs more blocked w x u reasons xs q k r adds h e is marked side ex exs eu made =
    let cut = resolvent_cut ngs w r.marks.items r.hints.items q A true is e side marked in
    let P : List Choice → Type 0 = λ l. BarsNext (take q w) A l in
    let same : chosen 0 (take q r.marks.items ++ true ∷ []) (take q w ++ A ∷ []) ≡ get_or more k [] =
    ap (λ m. chosen 0 m (take q w ++ A ∷ [])) (sym (cut_mark r.marks.items q true (e ∙ sym is.size) marked)) ∙ ap (λ l. chosen 0 r.marks.items l) (sym (cut_last w q A e side)) ∙ ap (λ l. chosen 0 r.marks.items l) (sym eu) ∙ sym made.1 in
    let size : length (take q w) ≡ q = length-take-le q w (omega arith) in
    goes_at fresh n more blocked (take q w) x (take q reasons) xs (Turn (By k)) (moments_left n w (Resolved r)) ex exs record {
      kept = walk_onwards fresh n ngs more blocked (take q w) (take q reasons) adds (walk_take fresh n ngs blocked w reasons q h (omega arith));
      here = (omega (arith, h.fits), (made.0, subst P same (resolvent_bars_a ngs (take q w) (take q r.marks.items) r.hints.items cut)));
      less = resolved_to_turn w n q r (By k) (omega arith) h.fits side;
    }

-- what is known where the last choice of the resolvent is a B
pub over_first : (fresh : Bool) (n : ℕ) (ngs : List (List Choice)) (blocked : List (List Side)) (w x : List Side) (reasons : List Reason) (q : ℕ) (reason : Reason) → IsWalk fresh n ngs blocked w reasons → q + 1 ≡ length w → get_or w q A ≡ B → x ≡ take q w → reason ≡ get_or reasons q reason → (length x < n) × ExhaustsA fresh n ngs blocked x reason
over_first fresh n ngs blocked w x reasons q reason h e side ex is =
    let size : length (take q w) ≡ q = length-take-le q w (omega arith) in
    let P : Reason → Type 0 = λ y. ExhaustsA fresh n ngs blocked (take q w) y in
    let Q : List Side → Type 0 = λ l. (length l < n) × ExhaustsA fresh n ngs blocked l reason in
    subst Q (sym ex) (omega (arith, h.fits), subst P (sym (get_or_read reasons q reason (omega (arith, h.sizes)) is BlockedPieces)) (b_exhausts fresh n ngs blocked w reasons q h (omega arith) side))

pub over_second : (ngs : List (List Choice)) (w x : List Side) (q : ℕ) (marks ms : List Bool) (hints hs : List ℕ) → q + 1 ≡ length w → IsResolvent ngs w marks hints → get_or marks q false ≡ true → get_or w q A ≡ B → x ≡ take q w → ms ≡ take q marks → hs ≡ hints → IsResolvent ngs (x ++ B ∷ []) (ms ++ true ∷ []) hs
over_second ngs w x q marks ms hints hs e is marked side ex em eh =
    let P : List Side → Type 0 = λ l. IsResolvent ngs (l ++ B ∷ []) (ms ++ true ∷ []) hs in
    let Q : List Bool → Type 0 = λ l. IsResolvent ngs (take q w ++ B ∷ []) (l ++ true ∷ []) hs in
    let R : List ℕ → Type 0 = λ l. IsResolvent ngs (take q w ++ B ∷ []) (take q marks ++ true ∷ []) l in
    subst P (sym ex) (subst Q (sym em) (subst R (sym eh) (resolvent_cut ngs w marks hints q B true is e side marked)))

pub over_goes : (fresh : Bool) (n : ℕ) (ngs : List (List Choice)) (blocked : List (List Side)) (w x u : List Side) (reasons xs : List Reason) (q : ℕ) (r : Resolvent) (next : Phase) → IsWalk fresh n ngs blocked w reasons → q + 1 ≡ length w → get_or w q A ≡ B → x ≡ take q w → xs ≡ take q reasons → u ≡ x → Closes fresh n ngs blocked u next → GoesOn fresh n ngs blocked x xs next (moments_left n w (Resolved r))
over_goes fresh n ngs blocked w x u reasons xs q r next h e side ex exs eu closes =
    let P : List Side → Type 0 = λ l. Closes fresh n ngs blocked l next in
    let here : P (take q w) = subst P (eu ∙ ex) closes in
    goes_at fresh n ngs blocked (take q w) x (take q reasons) xs next (moments_left n w (Resolved r)) ex exs record {
      kept = walk_take fresh n ngs blocked w reasons q h (omega arith);
      here = here.0;
      less = resolved_to_closed w n q r next (omega arith) h.fits side here.1;
    }

-- ---- as the code reads the sides and the reasons

pub read_side : (w : List Side) (q : ℕ) (r s : Side) → q < length w → r ≡ get_or w q r → r ≡ s → get_or w q A ≡ s
read_side w q r s inside is e = sym (get_or_read w q r inside is A) ∙ e

pub back_first : (fresh : Bool) (n : ℕ) (ngs : List (List Choice)) (blocked : List (List Side)) (w x : List Side) (reasons : List Reason) (k : ℕ) (c : Choice) (r : Reason) → IsWalk fresh n ngs blocked w reasons → k < length ngs → Bars (get_or ngs k []) w → EndsIn c (get_or ngs k []) → c.side ≡ B → x ≡ take c.pair w → r ≡ get_or reasons c.pair r → ExhaustsA fresh n ngs blocked x r
back_first fresh n ngs blocked w x reasons k c r h within bars e side ex is =
    let at = last_is w c (get_or ngs k []) e bars in
    let inside : c.pair < length reasons = omega (arith, at.0, h.sizes) in
    let P : Reason → Type 0 = λ y. ExhaustsA fresh n ngs blocked x y in
    subst P (sym (get_or_read reasons c.pair r inside is BlockedPieces)) (back_at_b fresh n ngs blocked w x reasons k c h within bars e side ex).1
