-- Passes to all pages of all lanes are taken by one worker, lane by lane.
use Rattle.std.proofs.Common.{ℕ, zero, suc, ◌+◌, ◌<◌, ◌≤◌, ◌≡◌, ◌≢◌, ⊎_elim, refl, sym, ap, ◌∙◌, subst, arith, List, [], ◌∷◌, ◌++◌, length, get_or, set, map, append_assoc, length-append, length-set, get_or-set_other, get_or-set_same}
use Rattle.std.proofs.lemmas.List.{append-nil}
use Rattle.std.specs.Prelude.{Option}
use Rattle.std.proofs.lemmas.Bool.{cases_eq}
use Rattle.lpcc_case.specs.Instance.{Instance}
use Rattle.cut_pool.specs.Pages.{PageView}
use Rattle.cut_pool.specs.Lanes.{LaneView, given}
use Rattle.cut_pool.specs.Reaches.{ReachView, lane_at, TookPages, LaneTook, TookAll}
use Rattle.cut_pool.specs.Opened.{Waits, RowWaits}

abbrev pub Pages : Type 0
Pages = List (List (Option PageView))

module _ {T : Type 0} where
  pub set_here : (xs : List T) (i k : ℕ) (x d : T) → k ≡ i → i < length xs → get_or (set xs i x) k d ≡ x
  set_here xs i k x d e h = ap (λ (j : ℕ). get_or (set xs i x) j d) e ∙ get_or-set_same xs i x d h

  pub read_here : (xs : List T) (i : ℕ) (x d : T) → i < length xs → x ≡ get_or xs i x → get_or xs i d ≡ x
  read_here [] i x d h e = absurd (omega arith)
  read_here (y ∷ xs) zero x d h e = sym e
  read_here (y ∷ xs) (suc i) x d h e = read_here xs i x d (omega arith) e

pub lengths_set : (lanes : List Pages) (k : ℕ) (p : Pages) → length p ≡ length (get_or lanes k []) → map length (set lanes k p) ≡ map length lanes
lengths_set [] k p e = refl
lengths_set (q ∷ lanes) zero p e = ap (λ (n : ℕ). n ∷ map length lanes) e
lengths_set (q ∷ lanes) (suc k) p e = ap (λ (ns : List ℕ). length q ∷ ns) (lengths_set lanes k p e)

pub row_is_lengths : (row : List ℕ) (lanes : List Pages) → length row ≡ length lanes → ((j : ℕ) → j < length lanes → get_or row j 0 ≡ length (get_or lanes j [])) → row ≡ map length lanes
row_is_lengths [] [] e h = refl
row_is_lengths [] (p ∷ lanes) e h = absurd (omega arith)
row_is_lengths (n ∷ row) [] e h = absurd (omega arith)
row_is_lengths (n ∷ row) (p ∷ lanes) e h =
    let here : n ≡ length p = h 0 (omega arith) in
    let rest : row ≡ map length lanes = row_is_lengths row lanes (omega arith) (λ j lt. h (suc j) (omega arith)) in
    λ i. here i ∷ rest i

-- what waits of one lane after it was handed out
pub row_step : (a : Instance) (lanes : List Pages) (row : List ℕ) (w k n : ℕ) (p : Pages) → RowWaits a lanes row w → k < length lanes → length p ≡ length (get_or lanes k []) → n ≤ length p → ((j : ℕ) → n ≤ j → j < length p → Waits a p w j) → RowWaits a (set lanes k p) (set row k n) w
row_step a lanes row w k n p R lt size le left =
    let known : k < length row = omega (arith, lt, R.count) in
    record {
      count = length-set row k n ∙ R.count ∙ sym (length-set lanes k p);
      within = λ l inside. ⊎_elim
          (λ (e : l ≡ k). omega (arith, set_here row k l n 0 e known, ap length (set_here lanes k l p [] e lt), le))
          (λ (d : l ≢ k). omega (arith, get_or-set_other row k l n 0 d, ap length (get_or-set_other lanes k l p [] d), R.within l (omega (arith, inside, length-set lanes k p))))
          (cases_eq l k);
      waits = λ l j inside from to. ⊎_elim
          (λ (e : l ≡ k).
          let here = set_here lanes k l p [] e lt in
          subst (λ (q : Pages). Waits a q w j) (sym here) (left j (omega (arith, from, set_here row k l n 0 e known)) (omega (arith, to, ap length here))))
          (λ (d : l ≢ k).
          let here = get_or-set_other lanes k l p [] d in
          subst (λ (q : Pages). Waits a q w j) (sym here) (R.waits l j (omega (arith, inside, length-set lanes k p)) (omega (arith, from, get_or-set_other row k l n 0 d)) (omega (arith, to, ap length here))))
          (cases_eq l k);
    }

-- what waits for another worker
pub others_step : (a : Instance) (lanes : List Pages) (row : List ℕ) (w k : ℕ) (p : Pages) → RowWaits a lanes row w → k < length lanes → length p ≡ length (get_or lanes k []) → ((j : ℕ) → Waits a (get_or lanes k []) w j → Waits a p w j) → RowWaits a (set lanes k p) row w
others_step a lanes row w k p R lt size kept =
    record {
      count = R.count ∙ sym (length-set lanes k p);
      within = λ l inside. ⊎_elim
          (λ (e : l ≡ k). omega (arith, ap length (set_here lanes k l p [] e lt), R.within l (omega (arith, inside, length-set lanes k p)), size, ap (λ (j : ℕ). length (get_or lanes j [])) e))
          (λ (d : l ≢ k). omega (arith, ap length (get_or-set_other lanes k l p [] d), R.within l (omega (arith, inside, length-set lanes k p))))
          (cases_eq l k);
      waits = λ l j inside from to.
          let was : l < length lanes = omega (arith, inside, length-set lanes k p) in
          ⊎_elim
          (λ (e : l ≡ k).
          let here = set_here lanes k l p [] e lt in
          let same : get_or lanes l [] ≡ get_or lanes k [] = ap (λ (j : ℕ). get_or lanes j []) e in
          subst (λ (q : Pages). Waits a q w j) (sym here) (kept j (subst (λ (q : Pages). Waits a q w j) same (R.waits l j was from (omega (arith, to, ap length here, size, ap length same))))))
          (λ (d : l ≢ k).
          let here = get_or-set_other lanes k l p [] d in
          subst (λ (q : Pages). Waits a q w j) (sym here) (R.waits l j was from (omega (arith, to, ap length here))))
          (cases_eq l k);
    }

lane_none : (l : LaneView) (n : ℕ) → LaneTook l l n n
lane_none l n = record { new = []; count = omega arith; pages = sym (append-nil l.pages); same_given = refl; at_ready = refl; dry = refl }

pub took_nothing : (r : ReachView) (row : List ℕ) → TookAll r r row row
took_nothing r row = record { worker = refl; case = refl; spare = refl; published = refl; count = refl; lanes = λ l h. lane_none (lane_at r l) (get_or row l 0) }

-- one lane more
pub took_step : (b m r : ReachView) (from to : List ℕ) (k n : ℕ) → TookAll b m from to → TookPages m r k (get_or to k 0) n → k < length to → TookAll b r from (set to k n)
took_step b m r from to k n T P known = record {
  worker = P.rest.worker ∙ T.worker;
  case = P.rest.case ∙ T.case;
  spare = P.rest.spare ∙ T.spare;
  published = P.rest.published ∙ T.published;
  count = P.rest.count ∙ T.count;
  lanes = λ l h. ⊎_elim
      (λ (e : l ≡ k).
      let was : LaneTook (lane_at b l) (lane_at m l) (get_or from l 0) (get_or to l 0) = T.lanes l h in
      let here : get_or (set to k n) l 0 ≡ n = set_here to k l n 0 e known in
      let this : lane_at r l ≡ lane_at r k = ap (lane_at r) e in
      let that : lane_at m l ≡ lane_at m k = ap (lane_at m) e in
      record {
        new = was.new ++ P.new;
        count = omega (arith, was.count, P.count, length-append was.new P.new, here, ap (λ (j : ℕ). get_or to j 0) e);
        pages = ap (λ (x : LaneView). x.pages) this ∙ P.pages ∙ ap (λ (x : LaneView). x.pages ++ P.new) (sym that) ∙ ap (λ (ps : List PageView). ps ++ P.new) was.pages ∙ append_assoc (lane_at b l).pages was.new P.new;
        same_given = ap given this ∙ P.same_given ∙ ap given (sym that) ∙ was.same_given;
        at_ready = ap (λ (x : LaneView). x.at_ready) this ∙ P.marks.0 ∙ ap (λ (x : LaneView). x.at_ready) (sym that) ∙ was.at_ready;
        dry = ap (λ (x : LaneView). x.dry) this ∙ P.marks.1 ∙ ap (λ (x : LaneView). x.dry) (sym that) ∙ was.dry;
      })
      (λ (d : l ≢ k).
      let same : lane_at m l ≡ lane_at r l = sym (P.rest.others l d) in
      let kept : get_or to l 0 ≡ get_or (set to k n) l 0 = sym (get_or-set_other to k l n 0 d) in
      subst (λ (x : LaneView). LaneTook (lane_at b l) x (get_or from l 0) (get_or (set to k n) l 0)) same (subst (λ (c : ℕ). LaneTook (lane_at b l) (lane_at m l) (get_or from l 0) c) kept (T.lanes l h)))
      (cases_eq l k);
}

-- the lanes up to this one were handed out whole
pub all_step : (lanes : List Pages) (row : List ℕ) (k n j : ℕ) (p : Pages) → ((i : ℕ) → i < k → get_or row i 0 ≡ length (get_or lanes i [])) → k < length lanes → k < length row → n ≡ length p → j < k + 1 → get_or (set row k n) j 0 ≡ length (get_or (set lanes k p) j [])
all_step lanes row k n j p all inside known e h = ⊎_elim
    (λ (same : j ≡ k). set_here row k j n 0 same known ∙ e ∙ ap length (sym (set_here lanes k j p [] same inside)))
    (λ (d : j ≢ k). get_or-set_other row k j n 0 d ∙ all j (before j k h d) ∙ ap length (sym (get_or-set_other lanes k j p [] d)))
    (cases_eq j k)
  where
    before : (j k : ℕ) → j < k + 1 → j ≢ k → j < k
    before j k h d = omega (arith, h, d)
