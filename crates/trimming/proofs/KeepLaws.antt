-- The log of the kept steps.
use Rattle.std.proofs.Common.{inl, inr, ℕ, ◌+◌, ◌<◌, ◌≤◌, ◌≡◌, refl, sym, ap, ◌∙◌, subst, arith, true, List, [], ◌∷◌, ◌++◌, length, get_or, map, take, set, Some}
use Rattle.std.specs.Prelude.{All, Contains, IsTrue, Result, Ok, Err, OnOk}
use Rattle.std.specs.List.{AllByRecursion}
use Rattle.std.proofs.lemmas.Bool.{cases_lt}
use Rattle.lp_base.specs.Ascending.{ascends_by}
use Rattle.std.proofs.lemmas.List.{get_or-set_same, get_or-set_other, length-set, length-map, take_more, take_all, get_or-take, get_or_default, length-take-le, map_push}
use Rattle.std.proofs.lemmas.List.Elements.{Contains-get_or}
use Rattle.std.proofs.lemmas.Option.{slice_get-get_or, slice_get_within, get_or_from_slice_get}
use Rattle.std.proofs.Math.ListN.{get_or-map}
use Rattle.nogoods.specs.declared.choice.Choice.{Choice}
use Rattle.derivation.specs.declared.step.Step.{Step}
use Rattle.derivation.specs.declared.step.Step.TheVariants.{Start, Derived}
use Rattle.derivation.specs.HintRuns.{closes}
use Rattle.derivation.specs.Logs.{Follows, IsLog, no_goods, no_good_of}
use Rattle.trimming.specs.Marks.{Moves, Numbers}
use Rattle.trimming.specs.Trimmed.{AreReached, IsFirstEmpty, hints_of, kept_steps, place_of, step_at, with_hints}
use Rattle.trimming.proofs.RenumberLaws.{renumbered, before_same}
use Rattle.trimming.proofs.PathLaws.{before_place, behind, front, hint_below, path_below, path_more, place_found, rises}

same_no_good : (f : ℕ → ℕ) (s : Step) → no_good_of (with_hints f s) ≡ no_good_of s
same_no_good f (Start ng) = refl
same_no_good f (Derived ng hints) = refl

no_good_at : (log : List Step) (p : ℕ) → get_or (no_goods log) p [] ≡ no_good_of (step_at log p)
no_good_at log p = get_or-map no_good_of log p (Start [])

first_inside : (log : List Step) (e : ℕ) → IsFirstEmpty log e → e < length log
first_inside log e x = omega (arith, slice_get_within (no_goods log) e [] x.empty, length-map log no_good_of)

pub kept_inside : (log : List Step) (places : List ℕ) (k : ℕ) → AreReached log places → IsLog log → Contains places k → k < length log
kept_inside log places k a is c =
    let inside = first_inside log a.first a.empty in
    let path = (a.reached k).0 c in
    omega (arith, path_below log a.first path.0 k is inside path.1, inside)

-- the no-goods of the kept steps so far
kept_no_good : (log : List Step) (places : List ℕ) (n m : ℕ) → n ≤ length places → m < n → (m < length (no_goods (kept_steps log places (take n places)))) × (get_or (no_goods (kept_steps log places (take n places))) m [] ≡ get_or (no_goods log) (get_or places m 0) [])
kept_no_good log places n m few below =
    let one : ℕ → Step = λ k. with_hints (place_of places) (step_at log k) in
    let made = map one (take n places) in
    let size : length (take n places) ≡ n = length-take-le n places few in
    let read : get_or made m (one 0) ≡ one (get_or (take n places) m 0) = get_or-map one (take n places) m 0 in
    let own : get_or (take n places) m 0 ≡ get_or places m 0 = get_or-take n places m 0 below in
    let inside : m < length made = omega (arith, size, length-map (take n places) one, below) in (
      omega (arith, inside, length-map made no_good_of),
      no_good_at made m ∙ ap no_good_of (get_or_default made m (Start []) (one 0) inside ∙ read ∙ ap one own) ∙ same_no_good (place_of places) (step_at log (get_or places m 0)) ∙ sym (no_good_at log (get_or places m 0)),
    )

numbered : (places numbers : List ℕ) (h : ℕ) → Numbers places numbers → Contains places h → get_or numbers h 0 ≡ place_of places h
numbered places numbers h n c =
    let found = place_found places h c in
    ap (λ k. get_or numbers k 0) (sym found.1) ∙ n (place_of places h) found.0

hint_kept : (log : List Step) (places : List ℕ) (k h : ℕ) → AreReached log places → Contains places k → Contains (hints_of (step_at log k)) h → Contains places h
hint_kept log places k h a c hint =
    let path = (a.reached k).0 c in
    (a.reached h).1 (path.0 ++ h ∷ [], path_more log a.first path.0 k h path.1 hint)

hint_moves : (log made : List Step) (places numbers : List ℕ) (n h : ℕ) → AreReached log places → IsLog log → Numbers places numbers → n < length places → made ≡ kept_steps log places (take n places) → Contains (hints_of (step_at log (get_or places n 0))) h → Moves (no_goods (take (get_or places n 0) log)) (no_goods made) (λ g. get_or numbers g 0) h
hint_moves log made places numbers n h a is ns inside made_of hint =
    let k : ℕ = get_or places n 0 in
    let kept : Contains places k = Contains-get_or places n 0 inside in
    let within : k < length log = kept_inside log places k a is kept in
    let low : h < k = hint_below log k h is within hint in
    let there : Contains places h = hint_kept log places k h a kept hint in
    let found = place_found places h there in
    let m : ℕ = place_of places h in
    let number : get_or numbers h 0 ≡ m = numbered places numbers h ns there in
    let early : m < n = before_place places m n a.ascending found.0 (omega (arith, found.1, low)) in
    let own = kept_no_good log places n m (omega (arith, inside)) early in
    let short : h < length (no_goods (take k log)) = omega (arith, length-map (take k log) no_good_of, length-take-le k log (omega (arith, within)), low) in
    let P : ℕ → Type 0 = λ i. (i < length (no_goods made)) × (get_or (no_goods made) i [] ≡ get_or (no_goods (take k log)) h []) in
    let Q : List Step → Type 0 = λ l. (m < length (no_goods l)) × (get_or (no_goods l) m [] ≡ get_or (no_goods (take k log)) h []) in
    let here : Q (kept_steps log places (take n places)) = (own.0, own.1 ∙ ap (λ g. get_or (no_goods log) g []) found.1 ∙ sym (before_same log k h (omega (arith, within)) short).1) in
    subst P (sym number) (subst Q (sym made_of) here)

all_move : (earlier made : List (List Choice)) (f : ℕ → ℕ) (all hints : List ℕ) → ((h : ℕ) → Contains all h → Moves earlier made f h) → ((h : ℕ) → Contains hints h → Contains all h) → AllByRecursion (Moves earlier made f) hints
all_move earlier made f all [] moves within = tt
all_move earlier made f all (h ∷ hints) moves within =
    (moves h (within h (front h hints)), all_move earlier made f all hints moves (λ g c. within g (behind h hints g c)))

follows_by : (log made : List Step) (k : ℕ) (f : ℕ → ℕ) (s : Step) → IsLog log → k < length log → step_at log k ≡ s → ((h : ℕ) → Contains (hints_of s) h → Moves (no_goods (take k log)) (no_goods made) f h) → Follows (no_goods made) (with_hints f s)
follows_by log made k f (Start ng) is within e moves = tt
follows_by log made k f (Derived ng hints) is within e moves =
    let follows : closes (no_goods (take k log)) ng hints ≡ true = is k (Derived ng hints) (slice_get-get_or log k (Start []) within ∙ ap (λ x. Some x) e) in
    renumbered (no_goods (take k log)) (no_goods made) f hints ng (all_move (no_goods (take k log)) (no_goods made) f hints hints moves (λ h c. c)) follows

pub kept_follows : (log made : List Step) (places numbers : List ℕ) (n k : ℕ) → AreReached log places → IsLog log → Numbers places numbers → n < length places → k ≡ get_or places n 0 → made ≡ kept_steps log places (take n places) → Follows (no_goods made) (with_hints (λ h. get_or numbers h 0) (step_at log k))
kept_follows log made places numbers n k a is ns inside at made_of =
    let P : ℕ → Type 0 = λ i. Follows (no_goods made) (with_hints (λ h. get_or numbers h 0) (step_at log i)) in
    let p : ℕ = get_or places n 0 in
    subst P (sym at) (follows_by log made p (λ h. get_or numbers h 0) (step_at log p) is (kept_inside log places p a is (Contains-get_or places n 0 inside)) refl (λ h hint. hint_moves log made places numbers n h a is ns inside made_of hint))

map_same : (f g : ℕ → ℕ) (all hints : List ℕ) → ((h : ℕ) → Contains all h → f h ≡ g h) → ((h : ℕ) → Contains hints h → Contains all h) → map f hints ≡ map g hints
map_same f g all [] same within = refl
map_same f g all (h ∷ hints) same within =
    ap (λ x. x ∷ map f hints) (same h (within h (front h hints))) ∙ ap (λ l. g h ∷ l) (map_same f g all hints same (λ i c. within i (behind h hints i c)))

hints_same : (f g : ℕ → ℕ) (s : Step) → ((h : ℕ) → Contains (hints_of s) h → f h ≡ g h) → with_hints f s ≡ with_hints g s
hints_same f g (Start ng) same = refl
hints_same f g (Derived ng hints) same = ap (λ l. Derived ng l) (map_same f g hints hints same (λ h c. c))

pub kept_more : (log made new : List Step) (places numbers : List ℕ) (n k : ℕ) → AreReached log places → Numbers places numbers → n < length places → k ≡ get_or places n 0 → made ≡ kept_steps log places (take n places) → new ≡ made ++ with_hints (λ h. get_or numbers h 0) (step_at log k) ∷ [] → new ≡ kept_steps log places (take (n + 1) places)
kept_more log made new places numbers n k a ns inside at made_of new_of =
    let p : ℕ = get_or places n 0 in
    let one : ℕ → Step = λ i. with_hints (place_of places) (step_at log i) in
    let renamed : with_hints (λ h. get_or numbers h 0) (step_at log p) ≡ one p = hints_same (λ h. get_or numbers h 0) (place_of places) (step_at log p) (λ h hint. numbered places numbers h ns (hint_kept log places p h a (Contains-get_or places n 0 inside) hint)) in
    let joined : map one (take (n + 1) places) ≡ map one (take n places) ++ one p ∷ [] = ap (map one) (take_more places n 0 inside) ∙ map_push one (take n places) p in
    new_of ∙ ap (λ i. made ++ with_hints (λ h. get_or numbers h 0) (step_at log i) ∷ []) at ∙ ap (λ s. made ++ s ∷ []) renamed ∙ ap (λ l. l ++ one p ∷ []) made_of ∙ sym joined

pub all_kept : (log made : List Step) (places : List ℕ) (n : ℕ) → length places ≤ n → made ≡ kept_steps log places (take n places) → made ≡ kept_steps log places places
all_kept log made places n past made_of = made_of ∙ ap (kept_steps log places) (take_all n places past)

pub keeps_empty : (log made : List Step) (places : List ℕ) → AreReached log places → made ≡ kept_steps log places places → Contains (no_goods made) []
keeps_empty log made places a made_of =
    let c : Contains places a.first = (a.reached a.first).1 ([], refl) in
    let P : List Step → Type 0 = λ l. Contains (no_goods l) [] in
    let n : ℕ = length places in
    let own = kept_no_good log places n c.0 (omega arith) (omega (arith, c.1)) in
    let at : get_or places c.0 0 ≡ a.first = get_or_default places c.0 0 a.first c.1 ∙ c.2 in
    let empty : get_or (no_goods log) a.first [] ≡ [] = get_or_from_slice_get (no_goods log) a.first [] [] a.empty.empty in
    let here : P (kept_steps log places (take n places)) = (c.0, own.0, own.1 ∙ ap (λ g. get_or (no_goods log) g []) at ∙ empty) in
    subst P (sym (made_of ∙ sym (ap (kept_steps log places) (take_all n places (omega arith))))) here

pub places_low : (log : List Step) (places : List ℕ) (n : ℕ) → AreReached log places → IsLog log → n ≡ length log → All (λ k. k < n) places
places_low log places n a is size k d inside =
    let low : get_or places k d < length log = kept_inside log places (get_or places k d) a is (k, inside, get_or_default places k (get_or places k d) d inside) in
    omega (arith, low, size)

-- ---- the places of places

pub number_more : (places numbers : List ℕ) (count i : ℕ) → IsTrue (ascends_by (λ k. k) places) → i < length places → get_or places i 0 < count → (length numbers ≡ count) × ((j : ℕ) → j < i → get_or numbers (get_or places j 0) 0 ≡ j) → (length (set numbers (get_or places i 0) i) ≡ count) × ((j : ℕ) → j < i + 1 → get_or (set numbers (get_or places i 0) i) (get_or places j 0) 0 ≡ j)
number_more places numbers count i up inside low so_far = (
  length-set numbers (get_or places i 0) i ∙ so_far.0,
  λ j below. elim (cases_lt j i) [
    | inl before ↦ get_or-set_other numbers (get_or places i 0) (get_or places j 0) i 0 (λ e. absurd (omega (arith, e, rises places j i up before inside))) ∙ so_far.1 j before
    | inr past ↦
        let same : i ≡ j = omega arith in
        let P : ℕ → Type 0 = λ m. get_or (set numbers (get_or places i 0) i) (get_or places m 0) 0 ≡ m in
        subst P same (get_or-set_same numbers (get_or places i 0) i 0 (omega (arith, low, so_far.0)))
  ],
)

pub kept_result : {T E : Type 0} (log made new : List Step) (places numbers : List ℕ) (n k : ℕ) (r : Result T E) → AreReached log places → Numbers places numbers → n < length places → k ≡ get_or places n 0 → made ≡ kept_steps log places (take n places) → OnOk r (new ≡ made ++ with_hints (λ h. get_or numbers h 0) (step_at log k) ∷ []) → OnOk r (new ≡ kept_steps log places (take (n + 1) places))
kept_result log made new places numbers n k (Ok x) a ns inside at made_of new_of = kept_more log made new places numbers n k a ns inside at made_of new_of
kept_result log made new places numbers n k (Err e) a ns inside at made_of new_of = new_of
