-- Why two steps that bar the two sides of a pair derive their common choices.
use Rattle.std.proofs.Common.{Bool, inl, inr, ℕ, ◌<◌, ◌≤◌, ◌≡◌, refl, sym, ap, ◌∙◌, subst, arith, true, false, ◌&&◌, nat_eq, List, [], ◌∷◌, ◌++◌, length, get_or, Some}
use Rattle.std.specs.Prelude.{All, slice_get}
use Rattle.std.specs.List.{AllByRecursion}
use Rattle.std.proofs.lemmas.Bool.{false≢true, ne_eqb, eq-eqb, or_right, cases_lt}
use Rattle.std.proofs.lemmas.List.{length-append, get_or_append_left, get_or_at}
use Rattle.std.proofs.lemmas.List.Elements.{recursion_from_All, All-cons}
use Rattle.std.proofs.lemmas.Option.{slice_get_within, slice_get-get_or, get_or_from_slice_get}
use Rattle.nogoods.specs.declared.choice.Choice.{Choice}
use Rattle.nogoods.specs.declared.choice.Side.{Side}
use Rattle.nogoods.specs.declared.choice.Side.TheVariants.{A, B}
use Rattle.nogoods.specs.Choices.{same_side, same_choice}
use Rattle.nogoods.specs.Pieces.{IsChoiceOf, Bars}
use Rattle.derivation.specs.HintRuns.{NamesBelow, is_assumed, unassumed, closes}
use Rattle.derivation.proofs.RunSteps.{at_none, at_one}
use Rattle.derivation.proofs.Barring.{closed-bars}
use Rattle.search.specs.FirstPieces.{IsBarred}
use Rattle.search.specs.Growth.{Adds}
use Rattle.search.specs.Chosen.{IsMarked, StaysMarked, chosen}
use Rattle.search.specs.Walks.{Assumes, BarsNext, IsExhausted, IsResolvent}
use Rattle.search.proofs.ChosenLaws.{chosen_held, chosen_assumes, chosen_next_last}
use Rattle.search.proofs.WalkLaws.{bars_onwards}

abbrev pub AreAssumed : List Choice → List Choice → Type 0
AreAssumed list cs = AllByRecursion (λ c. is_assumed list c ≡ true) cs

-- choices that are assumed leave what stands behind them
unassumed_front : (list front cs : List Choice) → AreAssumed list front → unassumed list (front ++ cs) ≡ unassumed list cs
unassumed_front list [] cs all = refl
unassumed_front list (c ∷ front) cs all = rw all.0 (unassumed_front list front cs all.1)

one_left : (list : List Choice) (c : Choice) → is_assumed list c ≡ false → unassumed list (c ∷ []) ≡ c ∷ []
one_left list c free = rw free refl

none_left : (list : List Choice) (c : Choice) → is_assumed list c ≡ true → unassumed list (c ∷ []) ≡ []
none_left list c held = rw held refl

apart : (m n : ℕ) (s t : Side) → m < n → (nat_eq m n && same_side s t) ≡ false
apart m n s t below = rw (ne_eqb m n (λ e. absurd (omega arith))) refl

-- a choice of a pair past all those that the list names is not assumed
pub fresh : (list : List Choice) (n : ℕ) (s : Side) → AllByRecursion (λ c. c.pair < n) list → is_assumed list (record { pair = n; side = s }) ≡ false
fresh [] n s below = refl
fresh (d ∷ list) n s below = rw (apart d.pair n d.side s below.0) (fresh list n s below.1)

still_assumed : (d : Choice) (list cs : List Choice) → AreAssumed list cs → AreAssumed (d ∷ list) cs
still_assumed d list [] all = tt
still_assumed d list (c ∷ cs) all = (or_right (same_choice d c) (is_assumed list c) all.0, still_assumed d list cs all.1)

own_assumed : (list : List Choice) (n : ℕ) → is_assumed ((record { pair = n; side = B }) ∷ list) (record { pair = n; side = B }) ≡ true
own_assumed list n = rw (eq-eqb n n refl) refl

pub resolved : (ngs : List (List Choice)) (list : List Choice) (w : List Side) (a b : ℕ) → a < length ngs → b < length ngs → (x : BarsNext w A (get_or ngs a [])) → (y : BarsNext w B (get_or ngs b [])) → AreAssumed list x.front → AreAssumed list y.front → AllByRecursion (λ c. c.pair < length w) list → closes ngs list (a ∷ b ∷ []) ≡ true
resolved ngs list w a b ha hb x y first second below =
    let n : ℕ = length w in
    let ca : Choice = record { pair = n; side = A } in
    let cb : Choice = record { pair = n; side = B } in
    let left_a : unassumed list (get_or ngs a []) ≡ ca ∷ [] = ap (unassumed list) x.ends ∙ unassumed_front list x.front (ca ∷ []) first ∙ one_left list ca (fresh list n A below) in
    let left_b : unassumed (cb ∷ list) (get_or ngs b []) ≡ [] = ap (unassumed (cb ∷ list)) y.ends ∙ unassumed_front (cb ∷ list) y.front (cb ∷ []) (still_assumed cb list y.front second) ∙ none_left (cb ∷ list) cb (own_assumed list n) in
    at_one ngs list a (b ∷ []) ca ha left_a (fresh list n B below) ∙ at_none ngs (cb ∷ list) b [] hb left_b

front_all : (P : Choice → Type 0) (front cs : List Choice) → All P (front ++ cs) → All P front
front_all P front cs all k d inside = subst P (get_or_append_left front cs d k inside) (all k d (omega (arith, length-append front cs)))

-- the list has each choice of the sides that stands in the front
pub front_assumed : (list : List Choice) (w : List Side) (s : Side) (cs : List Choice) → All (λ c. slice_get w c.pair ≡ Some c.side → is_assumed list c ≡ true) cs → (x : BarsNext w s cs) → AreAssumed list x.front
front_assumed list w s cs all x =
    let P : Choice → Type 0 = λ c. slice_get w c.pair ≡ Some c.side → is_assumed list c ≡ true in
    let Q : List Choice → Type 0 = λ l. All P l in
    let here : All P x.front = front_all P x.front ((record { pair = length w; side = s }) ∷ []) (subst Q x.ends all) in
    recursion_from_All (λ c. is_assumed list c ≡ true) x.front (λ k d inside. here k d inside (x.held k d inside))

pub below_sides : (list : List Choice) (w : List Side) → Bars list w → All (λ c. c.pair < length w) list
below_sides list w bars k d inside = slice_get_within w (get_or list k d).pair (get_or list k d).side (bars k d inside)

-- ---- the log with the step

was_barred : (n : ℕ) (ngs : List (List Choice)) (ng : List Choice) (hints : List ℕ) (p : List Side) → All (NamesBelow n) ngs → closes ngs ng hints ≡ true → length p ≡ n → IsBarred (ngs ++ ng ∷ []) p → IsBarred ngs p
was_barred n ngs ng hints p named closed size barred = elim (cases_lt barred.0 (length ngs)) [
  | inl here ↦ (barred.0, barred.1, here, sym (get_or_append_left ngs (ng ∷ []) barred.1 barred.0 here) ∙ barred.3, barred.4)
  | inr past ↦
      let at : length ngs ≡ barred.0 = omega (arith, barred.2, length-append ngs (ng ∷ [])) in
      let same : barred.1 ≡ ng = sym barred.3 ∙ get_or_at ngs ng [] barred.1 barred.0 at in
      let P : List Choice → Type 0 = λ l. Bars l p in
      let Q : ℕ → Type 0 = λ m. All (NamesBelow m) ngs in
      closed-bars ngs ng hints p (subst Q (sym size) named) closed (subst P same barred.4)
]

pub adds_one : (n : ℕ) (ngs : List (List Choice)) (ng : List Choice) (hints : List ℕ) → All (NamesBelow n) ngs → closes ngs ng hints ≡ true → Adds n ngs (ngs ++ ng ∷ [])
adds_one n ngs ng hints named closed = record {
  kept = λ k inside. (omega (arith, length-append ngs (ng ∷ [])), get_or_append_left ngs (ng ∷ []) [] k inside);
  bars = λ p size barred. was_barred n ngs ng hints p named closed size barred;
}

-- ---- resolvents

small : (w : List Side) (c : Choice) → IsChoiceOf w c → c.pair < length w
small w c is = slice_get_within w c.pair c.side is

-- where the marked choices are assumed, so are those of a list whose pairs are marked
covers : (list cs : List Choice) (marks : List Bool) (w : List Side) → length marks ≡ length w → Assumes list marks w → All (IsMarked marks) cs → All (λ c. slice_get w c.pair ≡ Some c.side → is_assumed list c ≡ true) cs
covers list cs marks w size assumes marked k d inside is =
    let c : Choice = get_or cs k d in
    assumes c.pair c.side (marked k d inside (omega (arith, size, small w c is))) is

pub first_resolvent : (ngs : List (List Choice)) (w : List Side) (marks : List Bool) (hints : List ℕ) (a b : ℕ) (fa fb : List Choice) → fa ≡ get_or ngs a [] → fb ≡ get_or ngs b [] → length marks ≡ length w → All (IsMarked marks) fa → All (IsMarked marks) fb → hints ≡ a ∷ b ∷ [] → (a < length ngs) × BarsNext w A (get_or ngs a []) → (b < length ngs) × BarsNext w B (get_or ngs b []) → IsResolvent ngs w marks hints
first_resolvent ngs w marks hints a b fa fb ea eb size ma mb eh x y = record {
  size = size;
  follows = λ list held assumes.
      let P : List Choice → Type 0 = λ l. All (λ c. slice_get w c.pair ≡ Some c.side → is_assumed list c ≡ true) l in
      let R : List ℕ → Type 0 = λ l. closes ngs list l ≡ true in
      let below : AllByRecursion (λ c. c.pair < length w) list = recursion_from_All (λ c. c.pair < length w) list (below_sides list w held) in
      let first = front_assumed list w A (get_or ngs a []) (subst P ea (covers list fa marks w size assumes ma)) x.1 in
      let second = front_assumed list w B (get_or ngs b []) (subst P eb (covers list fb marks w size assumes mb)) y.1 in
      subst R (sym eh) (resolved ngs list w a b x.0 y.0 x.1 y.1 first second below);
}

own_side : (w : List Side) (s : Side) → slice_get (w ++ s ∷ []) (length w) ≡ Some s
own_side w s =
    let within : length w < length (w ++ s ∷ []) = omega (arith, length-append w (s ∷ [])) in
    slice_get-get_or (w ++ s ∷ []) (length w) A within ∙ ap (λ x. Some x) (get_or_at w s [] A (length w) refl)

earlier_side : (w : List Side) (s t : Side) (p : ℕ) → p < length w → slice_get (w ++ s ∷ []) p ≡ Some t → slice_get w p ≡ Some t
earlier_side w s t p below is =
    slice_get-get_or w p A below ∙ ap (λ x. Some x) (sym (get_or_append_left w (s ∷ []) A p below) ∙ get_or_from_slice_get (w ++ s ∷ []) p t A is)

last_side : (w : List Side) (s t : Side) (p : ℕ) → ¬ (p < length w) → slice_get (w ++ s ∷ []) p ≡ Some t → (length w ≡ p) × (s ≡ t)
last_side w s t p past is =
    let inside : p < length (w ++ s ∷ []) = slice_get_within (w ++ s ∷ []) p t is in
    let at : length w ≡ p = omega (arith, past, inside, length-append w (s ∷ [])) in
    (at, sym (get_or_at w s [] A p at) ∙ get_or_from_slice_get (w ++ s ∷ []) p t A is)

earlier_mark : (marks : List Bool) (m : Bool) (p : ℕ) → p < length marks → get_or (marks ++ m ∷ []) p false ≡ true → get_or marks p false ≡ true
earlier_mark marks m p below is = sym (get_or_append_left marks (m ∷ []) false p below) ∙ is

-- the choice of the last pair is assumed by itself, the others by the list
assumes_more : (list : List Choice) (marks new : List Bool) (w : List Side) → length marks ≡ length w → StaysMarked marks new → Assumes list new w → Assumes ((record { pair = length w; side = B }) ∷ list) (marks ++ true ∷ []) (w ++ B ∷ [])
assumes_more list marks new w size stays assumes p s marked is =
    let cb : Choice = record { pair = length w; side = B } in
    elim (cases_lt p (length w)) [
      | inl below ↦
          let before : get_or new p false ≡ true = stays.stays p (earlier_mark marks true p (omega (arith, size, below)) marked) in
          or_right (same_choice cb (record { pair = p; side = s })) (is_assumed list (record { pair = p; side = s })) (assumes p s before (earlier_side w B s p below is))
      | inr past ↦
          let last = last_side w B s p (λ low. absurd (omega (arith, low, past))) is in
          let P : ℕ → Type 0 = λ k. is_assumed (cb ∷ list) (record { pair = k; side = s }) ≡ true in
          let Q : Side → Type 0 = λ t. is_assumed (cb ∷ list) (record { pair = length w; side = t }) ≡ true in
          subst P last.0 (subst Q last.1 (own_assumed list (length w)))
    ]

pub more_resolvent : (ngs : List (List Choice)) (w : List Side) (marks new : List Bool) (hints made : List ℕ) (j : ℕ) (fj : List Choice) → fj ≡ get_or ngs j [] → StaysMarked marks new → All (IsMarked new) fj → made ≡ j ∷ hints → (j < length ngs) × BarsNext w A (get_or ngs j []) → IsResolvent ngs (w ++ B ∷ []) (marks ++ true ∷ []) hints → IsResolvent ngs w new made
more_resolvent ngs w marks new hints made j fj ej stays mj eh x r =
    let size : length marks ≡ length w = omega (arith, r.size, length-append marks (true ∷ []), length-append w (B ∷ [])) in
    let size_new : length new ≡ length w = stays.size ∙ size in
    let n : ℕ = length w in
    let ca : Choice = record { pair = n; side = A } in
    let cb : Choice = record { pair = n; side = B } in
    record {
      size = size_new;
      follows = λ list held assumes.
          let P : List Choice → Type 0 = λ l. All (λ c. slice_get w c.pair ≡ Some c.side → is_assumed list c ≡ true) l in
          let R : List ℕ → Type 0 = λ l. closes ngs list l ≡ true in
          let below : AllByRecursion (λ c. c.pair < n) list = recursion_from_All (λ c. c.pair < n) list (below_sides list w held) in
          let first = front_assumed list w A (get_or ngs j []) (subst P ej (covers list fj new w size_new assumes mj)) x.1 in
          let left_j : unassumed list (get_or ngs j []) ≡ ca ∷ [] = ap (unassumed list) x.1.ends ∙ unassumed_front list x.1.front (ca ∷ []) first ∙ one_left list ca (fresh list n A below) in
          let there : Bars (cb ∷ list) (w ++ B ∷ []) = All-cons (IsChoiceOf (w ++ B ∷ [])) cb list (own_side w B) (bars_onwards list w (B ∷ []) held) in
          subst R (sym eh) (at_one ngs list j hints ca x.0 left_j (fresh list n B below) ∙ r.follows (cb ∷ list) there (assumes_more list marks new w size stays assumes));
    }

assumes_less : (list : List Choice) (marks : List Bool) (w : List Side) (s : Side) → length marks ≡ length w → Assumes list marks w → Assumes list (marks ++ false ∷ []) (w ++ s ∷ [])
assumes_less list marks w s size assumes p t marked is = elim (cases_lt p (length w)) [
  | inl below ↦ assumes p t (earlier_mark marks false p (omega (arith, size, below)) marked) (earlier_side w s t p below is)
  | inr past ↦
      let last = last_side w s t p (λ low. absurd (omega (arith, low, past))) is in
      absurd (false≢true (sym (get_or_at marks false [] false p (size ∙ last.0)) ∙ marked))
]

-- a pair whose choice is not marked
pub less_resolvent : (ngs : List (List Choice)) (w : List Side) (s : Side) (marks : List Bool) (hints : List ℕ) → IsResolvent ngs (w ++ s ∷ []) (marks ++ false ∷ []) hints → IsResolvent ngs w marks hints
less_resolvent ngs w s marks hints r =
    let size : length marks ≡ length w = omega (arith, r.size, length-append marks (false ∷ []), length-append w (s ∷ [])) in
    record {
      size = size;
      follows = λ list held assumes. r.follows list (bars_onwards list w (s ∷ []) held) (assumes_less list marks w s size assumes);
    }

pub resolvent_closes : (ngs : List (List Choice)) (w : List Side) (marks : List Bool) (hints : List ℕ) → IsResolvent ngs w marks hints → closes ngs (chosen 0 marks w) hints ≡ true
resolvent_closes ngs w marks hints r = r.follows (chosen 0 marks w) (chosen_held marks w) (chosen_assumes marks w)

-- the learned step where the last pair is marked and has side A
pub resolvent_bars_a : (ngs : List (List Choice)) (w : List Side) (marks : List Bool) (hints : List ℕ) → IsResolvent ngs (w ++ A ∷ []) (marks ++ true ∷ []) hints → BarsNext w A (chosen 0 (marks ++ true ∷ []) (w ++ A ∷ []))
resolvent_bars_a ngs w marks hints r =
    let size : length marks ≡ length w = omega (arith, r.size, length-append marks (true ∷ []), length-append w (A ∷ [])) in
    record { front = chosen 0 marks w; ends = chosen_next_last marks w A size; held = chosen_held marks w }

-- a resolvent bars the pieces that begin with its sides
pub resolvent_exhausts : (n : ℕ) (ngs : List (List Choice)) (blocked : List (List Side)) (w : List Side) (marks : List Bool) (hints : List ℕ) → All (NamesBelow n) ngs → IsResolvent ngs w marks hints → IsExhausted n ngs blocked w
resolvent_exhausts n ngs blocked w marks hints named r v size =
    let Q : ℕ → Type 0 = λ m. All (NamesBelow m) ngs in
    inl (closed-bars ngs (chosen 0 marks w) hints (w ++ v) (subst Q (sym size) named) (resolvent_closes ngs w marks hints r) (bars_onwards (chosen 0 marks w) w v (chosen_held marks w)))

-- ---- the step that is learned, as the code made it

pub closed_by : (ngs : List (List Choice)) (w : List Side) (marks ms : List Bool) (hints given : List ℕ) (list made : List Choice) → IsResolvent ngs w marks hints → ms ≡ marks → list ≡ chosen 0 ms w → made ≡ list → given ≡ hints → closes ngs made given ≡ true
closed_by ngs w marks ms hints given list made r em el e eh =
    let P : List Choice → Type 0 = λ l. closes ngs l given ≡ true in
    let R : List ℕ → Type 0 = λ l. closes ngs (chosen 0 marks w) l ≡ true in
    subst P (sym (e ∙ el ∙ ap (λ m. chosen 0 m w) em)) (subst R (sym eh) (resolvent_closes ngs w marks hints r))

pub names_below : (w : List Side) (ms : List Bool) (list made : List Choice) (n : ℕ) → length w ≤ n → list ≡ chosen 0 ms w → made ≡ list → NamesBelow n made
names_below w ms list made n short el e =
    let P : List Choice → Type 0 = λ l. NamesBelow n l in
    let here : NamesBelow n (chosen 0 ms w) = λ k d inside. let low : (get_or (chosen 0 ms w) k d).pair < length w = below_sides (chosen 0 ms w) w (chosen_held ms w) k d inside in omega arith in
    subst P (sym (e ∙ el)) here

pub made_by : (ngs more : List (List Choice)) (list made : List Choice) (k : ℕ) → more ≡ ngs ++ made ∷ [] → k ≡ length ngs → made ≡ list → (k < length more) × (get_or more k [] ≡ list)
made_by ngs more list made k is at em =
    (omega (arith, ap length is, at, length-append ngs (made ∷ [])), ap (λ l. get_or l k []) is ∙ get_or_at ngs made [] [] k (sym at) ∙ em)
