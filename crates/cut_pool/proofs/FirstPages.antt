-- Pages that were opened wait for every worker.
use Rattle.std.proofs.Common.{ℕ, zero, suc, ◌+◌, ◌<◌, ◌≤◌, ◌≡◌, ◌≢◌, ⊎_elim, refl, sym, ap, ◌∙◌, subst, arith, List, [], ◌∷◌, ◌++◌, length, get_or, set, length-append, length-set, get_or-set_other, Some, None}
use Rattle.std.specs.Prelude.{Option, All, slice_get, replicate}
use Rattle.std.specs.List.{AllByRecursion}
use Rattle.std.proofs.lemmas.Bool.{cases_eq, cases_lt}
use Rattle.std.proofs.lemmas.List.{get_or_append_left}
use Rattle.std.proofs.lemmas.List.Elements.{recursion_from_All}
use Rattle.std.proofs.Math.Seq.{get_or-append_seam}
use Rattle.lpcc_case.specs.Instance.{Instance}
use Rattle.cut_pool.specs.Pages.{PageView}
use Rattle.cut_pool.specs.Opened.{IsReady, IsFreshPage, Waits, RowWaits, IsFirstLane}
use Rattle.cut_pool.proofs.Taking.{Pages, set_here}

module _ {T : Type 0} where
  pub at_end : (xs : List T) (x d : T) (k : ℕ) → k ≡ length xs → get_or (xs ++ x ∷ []) k d ≡ x
  at_end xs x d k e = ap (λ (j : ℕ). get_or (xs ++ x ∷ []) j d) e ∙ get_or-append_seam xs x [] d

  pub all_more : (P : T → Type 0) (xs : List T) (x : T) → All P xs → P x → All P (xs ++ x ∷ [])
  all_more P xs x all here = λ k d h. ⊎_elim
      (λ (lt : k < length xs). subst P (sym (get_or_append_left xs (x ∷ []) d k lt)) (all k d lt))
      (λ (ge : length xs ≤ k). subst P (sym (at_end xs x d k (last k h ge))) here)
      (cases_lt k (length xs))
    where
      last : (k : ℕ) → k < length (xs ++ x ∷ []) → length xs ≤ k → k ≡ length xs
      last k h ge = omega (arith, h, ge, length-append xs (x ∷ []))

  get_end : (xs : List T) (x : T) → slice_get (xs ++ x ∷ []) (length xs) ≡ Some x
  get_end [] x = refl
  get_end (y ∷ xs) x = get_end xs x

  get_more : (xs : List T) (y x : T) (i : ℕ) → slice_get xs i ≡ Some x → slice_get (xs ++ y ∷ []) i ≡ Some x
  get_more [] y x i e = absurd (cc)
  get_more (z ∷ xs) y x zero e = e
  get_more (z ∷ xs) y x (suc i) e = get_more xs y x i e

pub zero_at : (n l z : ℕ) → z ≡ 0 → get_or (replicate n z) l 0 ≡ 0
zero_at zero l z e = refl
zero_at (suc n) zero z e = e
zero_at (suc n) (suc l) z e = zero_at n l z e

pub length_same : {T : Type 0} (n : ℕ) (x : T) → length (replicate n x) ≡ n
length_same zero x = refl
length_same (suc n) x = ap suc (length_same n x)

-- a page that was opened has a pass for each worker
ready_at : (a : Instance) (room : ℕ) (opened : List (Option PageView)) (w : ℕ) → w < length opened → AllByRecursion (IsReady a room) opened → (p : PageView) × (slice_get opened w ≡ Some (Some p)) × IsFreshPage a p
ready_at a room [] w h r = absurd (omega arith)
ready_at a room (None ∷ opened) zero h r = absurd r.0
ready_at a room (Some p ∷ opened) zero h r = (p, refl, (r.0.case, r.0.sized, r.0.seen))
ready_at a room (o ∷ opened) (suc w) h r = ready_at a room opened w (omega arith) r.1

new_waits : (a : Instance) (room : ℕ) (pages : Pages) (opened : List (Option PageView)) (w : ℕ) → w < length opened → All (IsReady a room) opened → Waits a (pages ++ opened ∷ []) w (length pages)
new_waits a room pages opened w h all =
    let r = ready_at a room opened w h (recursion_from_All (IsReady a room) opened all) in
    (opened, r.0, get_end pages opened, r.1, r.2)

still_waits : (a : Instance) (pages : Pages) (opened : List (Option PageView)) (w j : ℕ) → Waits a pages w j → Waits a (pages ++ opened ∷ []) w j
still_waits a pages opened w j W = (W.0, W.1, get_more pages opened W.0 j W.2, W.3, W.4)

-- the first page of a lane
pub first_lane : (a : Instance) (room n : ℕ) (opened : List (Option PageView)) (lane : Pages) → lane ≡ [] ++ opened ∷ [] → length opened ≡ n → All (IsReady a room) opened → IsFirstLane a n lane
first_lane a room n opened lane e size all =
    (ap length e, λ w h. subst (λ (l : Pages). Waits a l w 0) (sym e) (new_waits a room [] opened w (omega (arith, h, size)) all))

-- a page more waits for every worker
pub open_step : (a : Instance) (lanes : List Pages) (row : List ℕ) (w k room : ℕ) (opened : List (Option PageView)) (q : Pages) → RowWaits a lanes row w → k < length lanes → q ≡ get_or lanes k [] ++ opened ∷ [] → w < length opened → All (IsReady a room) opened → RowWaits a (set lanes k q) row w
open_step a lanes row w k room opened q R lt e h all =
    let old : Pages = get_or lanes k [] in
    let longer : length q ≡ length old + 1 = ap length e ∙ length-append old (opened ∷ []) in
    record {
      count = R.count ∙ sym (length-set lanes k q);
      within = λ l inside.
          let was : l < length lanes = omega (arith, inside, length-set lanes k q) in
          ⊎_elim
          (λ (same : l ≡ k). omega (arith, ap length (set_here lanes k l q [] same lt), longer, R.within l was, ap (λ (j : ℕ). length (get_or lanes j [])) same))
          (λ (d : l ≢ k). omega (arith, ap length (get_or-set_other lanes k l q [] d), R.within l was))
          (cases_eq l k);
      waits = λ l j inside from to.
          let was : l < length lanes = omega (arith, inside, length-set lanes k q) in
          ⊎_elim
          (λ (same : l ≡ k).
          let here = set_here lanes k l q [] same lt in
          let that : get_or lanes l [] ≡ old = ap (λ (i : ℕ). get_or lanes i []) same in
          subst (λ (p : Pages). Waits a p w j) (sym here ∙ refl) (subst (λ (p : Pages). Waits a p w j) (sym e) (⊎_elim
          (λ (less : j < length old). still_waits a old opened w j (subst (λ (p : Pages). Waits a p w j) that (R.waits l j was from (omega (arith, less, ap length that)))))
          (λ (ge : length old ≤ j). subst (λ (i : ℕ). Waits a (old ++ opened ∷ []) w i) (last j (length old) (length q) longer ge (omega (arith, to, ap length here))) (new_waits a room old opened w h all))
          (cases_lt j (length old)))))
          (λ (d : l ≢ k).
          let here = get_or-set_other lanes k l q [] d in
          subst (λ (p : Pages). Waits a p w j) (sym here) (R.waits l j was from (omega (arith, to, ap length here))))
          (cases_eq l k);
    }
  where
    last : (j m n : ℕ) → n ≡ m + 1 → m ≤ j → j < n → m ≡ j
    last j m n e ge lt = omega (arith, e, ge, lt)

-- the first pages wait for a worker who has none yet
pub first_row : (a : Instance) (lanes : List Pages) (w : ℕ) → All (IsFirstLane a (length lanes)) lanes → w < length lanes → RowWaits a lanes (replicate (length lanes) 0) w
first_row a lanes w all h = record {
  count = length_same (length lanes) none;
  within = λ l inside. omega (arith, zero_at (length lanes) l 0 refl);
  waits = λ l j inside from to.
      let first = all l [] inside in
      subst (λ (i : ℕ). Waits a (get_or lanes l []) w i) (only j (omega (arith, to, first.0))) (first.1 w h);
}
  where
    none : ℕ
    none = 0

    only : (j : ℕ) → j < 1 → 0 ≡ j
    only j h = omega (arith, h)
