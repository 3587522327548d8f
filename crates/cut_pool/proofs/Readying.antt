-- A shelf readies a reach.
use Rattle.std.proofs.Common.{ℕ, zero, suc, ◌<◌, ◌≤◌, ◌^◌, ◌≡◌, ◌≢◌, ◌⊎◌, inl, inr, ⊎_elim, refl, sym, ap, ◌∙◌, subst, arith, List, [], ◌∷◌, ◌++◌, length, get_or, set, map, length-append, length-set, get_or-set_other}
use Rattle.std.specs.Prelude.{All, replicate, false, Result, Ok, Err, OnOk}
use Rattle.std.specs.List.{AllByRecursion}
use Rattle.std.proofs.lemmas.List.Elements.{All-from_get_or, All-from_recursion, recursion_from_All}
use Rattle.cut_pool.specs.declared.rooms.TheConstants.{FIRST_ROOM}
use Rattle.std.proofs.lemmas.Bool.{cases_eq}
use Rattle.std.proofs.lemmas.List.{length-map}
use Rattle.lpcc_case.specs.Instance.{Instance}
use Rattle.cut_pool.specs.Lanes.{LaneView, given, marked}
use Rattle.cut_pool.specs.Reaches.{ReachView, lane_at, no_lane, AreMarked, LaneTook, TookAll, TurnedPage, Turned, bare_reach}
use Rattle.cut_pool.specs.Opened.{RowWaits, IsRoom, IsShelf, IsFirstLane}
use Rattle.cut_pool.specs.Shelves.{ShelfView, page_count, Fits, IsReadied, Readied, IsNewReach, SameButRow}
use Rattle.cut_pool.proofs.Counting.{counts_same, counts_at}
use Rattle.cut_pool.proofs.Taking.{Pages, set_here}
use Rattle.cut_pool.proofs.FirstPages.{length_same, zero_at}

-- ---- what the shelf keeps

pub shelf_taken : (a : Instance) (lanes after : List Pages) (rooms : List ℕ) (handed : List (List ℕ)) (w : ℕ) (row : List ℕ) → IsShelf a lanes rooms handed → w < length lanes → length after ≡ length lanes → RowWaits a after row w → ((v : ℕ) (r : List ℕ) → v ≢ w → RowWaits a lanes r v → RowWaits a after r v) → IsShelf a after rooms (set handed w row)
shelf_taken a lanes after rooms handed w row S known count mine others = record {
  few = omega (arith, S.few, count);
  rooms_count = S.rooms_count ∙ sym count;
  sized = S.sized;
  rows = length-set handed w row ∙ S.rows ∙ sym count;
  waits = λ v h. ⊎_elim
      (λ (e : v ≡ w). subst (λ (r : List ℕ). RowWaits a after r v) (sym (set_here handed w v row [] e (omega (arith, known, S.rows)))) (subst (λ (k : ℕ). RowWaits a after row k) (sym e) mine))
      (λ (d : v ≢ w). subst (λ (r : List ℕ). RowWaits a after r v) (sym (get_or-set_other handed w v row [] d)) (others v (get_or handed v []) d (S.waits v (omega (arith, h, count)))))
      (cases_eq v w);
}

pub shelf_opened : (a : Instance) (lanes after : List Pages) (rooms sized : List ℕ) (handed : List (List ℕ)) → IsShelf a lanes rooms handed → length after ≡ length lanes → (length sized ≡ length rooms) × All IsRoom sized → ((v : ℕ) (r : List ℕ) → v < length lanes → RowWaits a lanes r v → RowWaits a after r v) → IsShelf a after sized handed
shelf_opened a lanes after rooms sized handed S count R kept = record {
  few = omega (arith, S.few, count);
  rooms_count = R.0 ∙ S.rooms_count ∙ sym count;
  sized = R.1;
  rows = S.rows ∙ sym count;
  waits = λ v h. let was : v < length lanes = omega (arith, h, count) in kept v (get_or handed v []) was (S.waits v was);
}

-- ---- counts of pages

pub took_counts : (b r : ReachView) (from to : List ℕ) → TookAll b r from to → map page_count b.lanes ≡ from → length to ≡ length b.lanes → map page_count r.lanes ≡ to
took_counts b r from to T e size = counts_same r.lanes to (size ∙ sym T.count) (λ j h.
    let inside : j < length b.lanes = omega (arith, h, size) in
    let t = T.lanes j inside in
    let was : page_count (get_or b.lanes j no_lane) ≡ get_or from j 0 = counts_at b.lanes from j e inside in
    omega (arith, ap length t.pages, length-append (get_or b.lanes j no_lane).pages t.new, t.count, was))

pub marked_counts : (b m : List LaneView) → AreMarked b m → map page_count m ≡ map page_count b
marked_counts b m M = counts_same m (map page_count b) (length-map b page_count ∙ sym M.0) (λ j h.
    let inside : j < length b = omega (arith, h, length-map b page_count) in
    ap page_count (M.1 j no_lane inside) ∙ counts_at b (map page_count b) j refl inside)

-- ---- what `ready` does to a reach

readied_lane : (b m r : LaneView) (from to : ℕ) → m ≡ marked b → LaneTook m r from to → IsReadied b r
readied_lane b m r from to e t = record {
  new = t.new;
  pages = t.pages ∙ ap (λ (l : LaneView). l.pages ++ t.new) e;
  same = t.same_given ∙ ap given e;
  at_ready = t.at_ready ∙ ap (λ (l : LaneView). l.at_ready) e;
  dry = t.dry ∙ ap (λ (l : LaneView). l.dry) e;
}

module _ (m n : ReachView) (t : Turned m n) where
  turned_worker : n.worker ≡ m.worker
  turned_worker = ⊎_elim (λ (e : n ≡ m). ap (λ (x : ReachView). x.worker) e) (λ (p : (m.spare ≡ 0) × TurnedPage m n). ap (λ (x : ReachView). x.worker) p.1.1) t

  turned_case : n.case ≡ m.case
  turned_case = ⊎_elim (λ (e : n ≡ m). ap (λ (x : ReachView). x.case) e) (λ (p : (m.spare ≡ 0) × TurnedPage m n). ap (λ (x : ReachView). x.case) p.1.1) t

  turned_lanes : n.lanes ≡ m.lanes
  turned_lanes = ⊎_elim (λ (e : n ≡ m). ap (λ (x : ReachView). x.lanes) e) (λ (p : (m.spare ≡ 0) × TurnedPage m n). ap (λ (x : ReachView). x.lanes) p.1.1) t

  turned_spare : m.spare ≤ n.spare
  turned_spare = ⊎_elim (λ (e : n ≡ m). omega (arith, ap (λ (x : ReachView). x.spare) e)) (λ (p : (m.spare ≡ 0) × TurnedPage m n). omega (arith, p.0)) t

  turned_published : (n.published ≡ m.published) ⊎ ((m.spare ≡ 0) × (n.published ≡ []))
  turned_published = ⊎_elim (λ (e : n ≡ m). inl (ap (λ (x : ReachView). x.published) e)) (λ (p : (m.spare ≡ 0) × TurnedPage m n). inr (p.0, ap (λ (x : ReachView). x.published) p.1.1)) t

  pub turned_fits : (s after : ShelfView) (w : ℕ) → Fits s w m → (after.case ≡ s.case) × (after.handed ≡ s.handed) → length after.pages ≡ length s.pages → Fits after w n
  turned_fits s after w F same count = record {
    known = omega (arith, F.known, count);
    number = turned_worker ∙ F.number;
    case = turned_case ∙ F.case ∙ sym same.0;
    lanes = ap length turned_lanes ∙ F.lanes ∙ sym count;
    pages = ap (map page_count) turned_lanes ∙ F.pages ∙ ap (λ (h : List (List ℕ)). get_or h w []) (sym same.1);
  }

  pub readied : (b r : ReachView) (from to : List ℕ) → (m.worker ≡ b.worker) × (m.case ≡ b.case) × (m.spare ≡ b.spare) × (m.published ≡ b.published) → AreMarked b.lanes m.lanes → TookAll n r from to → Readied b r
  readied b r from to same M T = record {
    worker = T.worker ∙ turned_worker ∙ same.0;
    case = T.case ∙ turned_case ∙ same.1;
    spare = omega (arith, turned_spare, T.spare, same.2);
    published = ⊎_elim (λ (e : n.published ≡ m.published). inl (T.published ∙ e ∙ same.3)) (λ (p : (m.spare ≡ 0) × (n.published ≡ [])). inr (sym same.2 ∙ p.0, T.published ∙ p.1)) turned_published;
    count = T.count ∙ ap length turned_lanes ∙ M.0;
    lanes = λ k h.
        let inside : k < length n.lanes = omega (arith, h, M.0, ap length turned_lanes) in
        let mine : lane_at n k ≡ marked (lane_at b k) = ap (λ (l : List LaneView). get_or l k no_lane) turned_lanes ∙ M.1 k no_lane h in
        readied_lane (lane_at b k) (lane_at n k) (lane_at r k) (get_or from k 0) (get_or to k 0) mine (T.lanes k inside);
  }

pub marked_fits : (s : ShelfView) (w : ℕ) (b m : ReachView) → Fits s w b → (m.worker ≡ b.worker) × (m.case ≡ b.case) × (m.spare ≡ b.spare) × (m.published ≡ b.published) → AreMarked b.lanes m.lanes → Fits s w m
marked_fits s w b m F same M = record {
  known = F.known;
  number = same.0 ∙ F.number;
  case = same.1 ∙ F.case;
  lanes = M.0 ∙ F.lanes;
  pages = marked_counts b.lanes m.lanes M ∙ F.pages;
}

pub taken_fits : (s after : ShelfView) (w : ℕ) (n r : ReachView) (from to : List ℕ) → Fits s w n → TookAll n r from to → from ≡ get_or s.handed w [] → length to ≡ length n.lanes → after.case ≡ s.case → length after.pages ≡ length s.pages → to ≡ get_or after.handed w [] → Fits after w r
taken_fits s after w n r from to F T from_is size case count to_is = record {
  known = omega (arith, F.known, count);
  number = T.worker ∙ F.number;
  case = T.case ∙ F.case ∙ sym case;
  lanes = T.count ∙ F.lanes ∙ sym count;
  pages = took_counts n r from to T (F.pages ∙ sym from_is) size ∙ to_is;
}

-- ---- a new shelf

bare_counts : (n : ℕ) → map page_count (replicate n no_lane) ≡ replicate n (page_count no_lane)
bare_counts zero = refl
bare_counts (suc n) = ap (λ (l : List ℕ). 0 ∷ l) (bare_counts n)

bare_at : (n k : ℕ) → get_or (replicate n no_lane) k no_lane ≡ no_lane
bare_at zero k = refl
bare_at (suc n) zero = refl
bare_at (suc n) (suc k) = bare_at n k

pub first_counts : (a : Instance) (lanes : List Pages) (n : ℕ) → All (IsFirstLane a n) lanes → map length lanes ≡ replicate (length lanes) 1
first_counts a lanes n all = go lanes (recursion_from_All (IsFirstLane a n) lanes all)
  where
    go : (ls : List Pages) → AllByRecursion (IsFirstLane a n) ls → map length ls ≡ replicate (length ls) 1
    go [] r = refl
    go (l ∷ ls) r = λ i. r.0.0 i ∷ go ls r.1 i

one_at : (n l z : ℕ) → l < n → z ≡ 1 → get_or (replicate n z) l 0 ≡ 1
one_at zero l z h e = absurd (omega arith)
one_at (suc n) zero z h e = e
one_at (suc n) (suc l) z h e = one_at n l z (omega arith) e

pub new_reach : (s : ShelfView) (a : Instance) (n w : ℕ) (r : ReachView) → TookAll (bare_reach a n w) r (replicate n 0) (replicate n 1) → w < n → length s.pages ≡ n → s.case ≡ a → s.pages ≡ replicate n 1 → get_or s.handed w [] ≡ replicate n 1 → IsNewReach s w r
new_reach s a n w r T h size case pages handed =
    let bare : ReachView = bare_reach a n w in
    let count : length r.lanes ≡ n = T.count ∙ length_same n no_lane in
    let counts : map page_count r.lanes ≡ replicate n 1 = took_counts bare r (replicate n 0) (replicate n 1) T (bare_counts n) (length_same n one ∙ sym (length_same n no_lane)) in
    record {
      fits = record { known = omega (arith, h, size); number = T.worker; case = T.case ∙ sym case; lanes = count ∙ sym size; pages = counts ∙ sym handed };
      all = counts ∙ sym pages;
      spare = T.spare;
      published = T.published;
      lanes = All-from_get_or (λ l. (given l ≡ []) × (l.at_ready ≡ 0) × (l.dry ≡ false) × (page_count l ≡ 1)) r.lanes no_lane (λ k lt.
          let inside : k < n = omega (arith, lt, count) in
          let t = T.lanes k (omega (arith, inside, length_same n no_lane)) in
          let was : lane_at bare k ≡ no_lane = bare_at n k in (
            t.same_given ∙ ap given was,
            t.at_ready ∙ ap (λ (l : LaneView). l.at_ready) was,
            t.dry ∙ ap (λ (l : LaneView). l.dry) was,
            omega (arith, ap length t.pages, length-append (lane_at bare k).pages t.new, t.count, ap page_count was, zero_at n k 0 refl, one_at n k 1 inside refl),
          ));
    }
  where
    one : ℕ
    one = 1

pub new_shelf : (a : Instance) (lanes : List Pages) (rooms : List ℕ) (handed : List (List ℕ)) → length lanes < 2 ^ 32 → rooms ≡ replicate (length lanes) FIRST_ROOM → length handed ≡ length lanes → ((w : ℕ) → w < length lanes → RowWaits a lanes (get_or handed w []) w) → IsShelf a lanes rooms handed
new_shelf a lanes rooms handed few r rows waits = record {
  few = few;
  rooms_count = ap length r ∙ length_same (length lanes) FIRST_ROOM;
  sized = All-from_recursion IsRoom rooms (subst (AllByRecursion IsRoom) (sym r) (same_rooms (length lanes)));
  rows = rows;
  waits = waits;
}
  where
    same_rooms : (n : ℕ) → AllByRecursion IsRoom (replicate n FIRST_ROOM)
    same_rooms zero = tt
    same_rooms (suc n) = ((omega arith, omega arith), same_rooms n)

-- ---- other workers

pub row_rest : (before after : ShelfView) (w : ℕ) (row : List ℕ) → after.case ≡ before.case → length after.pages ≡ length before.pages → after.handed ≡ set before.handed w row → SameButRow before after w
row_rest before after w row case count e = record {
  case = case;
  count = count;
  others = λ v n. ap (λ (h : List (List ℕ)). get_or h v []) e ∙ get_or-set_other before.handed w v row [] n;
}

pub turned_rest : (before after : ShelfView) (w : ℕ) → (after.case ≡ before.case) × (after.handed ≡ before.handed) → length after.pages ≡ length before.pages → SameButRow before after w
turned_rest before after w same count = record {
  case = same.0;
  count = count;
  others = λ v n. ap (λ (h : List (List ℕ)). get_or h v []) same.1;
}

pub no_rest : (s : ShelfView) (w : ℕ) → SameButRow s s w
no_rest s w = record { case = refl; count = refl; others = λ v n. refl }

pub rest_rest : (a b c : ShelfView) (w : ℕ) → SameButRow a b w → SameButRow b c w → SameButRow a c w
rest_rest a b c w P Q = record {
  case = Q.case ∙ P.case;
  count = Q.count ∙ P.count;
  others = λ v n. Q.others v n ∙ P.others v n;
}

pub ruleset rests = (turned_rest, no_rest, rest_rest)

-- ---- answers

pub on_ok : {X E : Type 0} (r : Result X E) (P Q : Type 0) → (P → Q) → OnOk r P → OnOk r Q
on_ok (Ok x) P Q f h = f h
on_ok (Err e) P Q f h = h
