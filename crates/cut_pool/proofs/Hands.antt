-- A pass is taken from a shelf of pages, or put back.
use Rattle.std.proofs.Common.{ℕ, zero, suc, ◌<◌, ◌≡◌, ◌≢◌, ◌⊎◌, ⊎_elim, refl, sym, ap, ◌∙◌, subst, arith, List, [], ◌∷◌, length, get_or, set, Some, None, ◌+◌, ◌++◌, append_assoc, length-append, length-set, get_or-set_other, get_or-set_same}
use Rattle.std.proofs.lemmas.List.{append-nil}
use Rattle.cut_pool.specs.Lanes.{LaneView, given, with_page}
use Rattle.cut_pool.specs.Reaches.{ReachView, no_lane, lane_at, TookPages}
use Rattle.cut_pool.proofs.Order.{given_added}
use Rattle.std.specs.Prelude.{slice_get, Option}
use Rattle.std.proofs.lemmas.Bool.{cases_eq}
use Rattle.lpcc_case.specs.Instance.{Instance}
use Rattle.cut_pool.specs.Pages.{PageView}
use Rattle.cut_pool.specs.Opened.{IsFreshPage, Waits}

module _ {T : Type 0} where
  pub same_some : (x y : T) → Some x ≡ Some y → x ≡ y
  same_some x y e = cc

  pub got : (l : List T) (i : ℕ) (p : T) → i < length l → p ≡ get_or l i p → slice_get l i ≡ Some p
  got [] i p h e = absurd (omega arith)
  got (o ∷ l) zero p h e = ap Some (sym e)
  got (o ∷ l) (suc i) p h e = got l i p (omega arith) e

  pub there : (l : List T) (i : ℕ) (p : T) → slice_get l i ≡ Some p → i < length l
  there [] i p e = absurd (cc)
  there (o ∷ l) zero p e = omega arith
  there (o ∷ l) (suc i) p e = omega (arith, there l i p e)

  pub set_got : (l : List T) (i : ℕ) (p q : T) → slice_get l i ≡ Some p → slice_get (set l i q) i ≡ Some q
  set_got [] i p q e = absurd (cc)
  set_got (o ∷ l) zero p q e = refl
  set_got (o ∷ l) (suc i) p q e = set_got l i p q e

  pub set_kept : (l : List T) (i k : ℕ) (q : T) → k ≢ i → slice_get (set l i q) k ≡ slice_get l k
  set_kept [] i k q n = refl
  set_kept (o ∷ l) zero zero q n = absurd (n refl)
  set_kept (o ∷ l) zero (suc k) q n = refl
  set_kept (o ∷ l) (suc i) zero q n = refl
  set_kept (o ∷ l) (suc i) (suc k) q n = set_kept l i k q (λ e. n (ap suc e))

  pub set_back : (l : List T) (i : ℕ) (x y : T) → slice_get l i ≡ Some y → set (set l i x) i y ≡ l
  set_back [] i x y e = refl
  set_back (o ∷ l) zero x y e = ap (λ t. t ∷ l) (sym (same_some o y e))
  set_back (o ∷ l) (suc i) x y e = ap (λ t. o ∷ t) (set_back l i x y e)

pub waits_else : (a : Instance) (l : List (List (Option PageView))) (j worker w k : ℕ) (o : List (Option PageView)) → slice_get l j ≡ Some o → (w ≢ worker) ⊎ (k ≢ j) → Waits a l w k → Waits a (set l j (set o worker None)) w k
waits_else a l j worker w k o e apart W = ⊎_elim
    (λ (same : k ≡ j).
    let other : w ≢ worker = ⊎_elim (λ (n : w ≢ worker). n) (λ (n : k ≢ j). absurd (n same)) apart in
    let x : List (Option PageView) = set o worker None in
    let mine : W.0 ≡ o = same_some W.0 o (sym W.2 ∙ ap (λ (i : ℕ). slice_get l i) same ∙ e) in
    (x, W.1, ap (λ (i : ℕ). slice_get (set l j x) i) same ∙ set_got l j o x e, set_kept o worker w None other ∙ ap (λ (t : List (Option PageView)). slice_get t w) (sym mine) ∙ W.3, W.4))
    (λ (n : k ≢ j). (W.0, W.1, set_kept l j k (set o worker None) n ∙ W.2, W.3, W.4))
    (cases_eq k j)

pub took_none : (r : ReachView) (lane n : ℕ) → TookPages r r lane n n
took_none r lane n = record {
  new = [];
  count = omega arith;
  pages = sym (append-nil (lane_at r lane).pages);
  same_given = refl;
  marks = (refl, refl);
  rest = record { worker = refl; case = refl; spare = refl; published = refl; count = refl; others = λ k n. refl };
}

-- one page more
pub took_more : (b m after : ReachView) (lane from to : ℕ) (p : PageView) → TookPages b m lane from to → IsFreshPage m.case p → lane < length m.lanes → after ≡ record m { lanes = set m.lanes lane (with_page (lane_at m lane) p) } → TookPages b after lane from (to + 1)
took_more b m after lane from to p T fresh within e =
    let x : LaneView = with_page (lane_at m lane) p in
    subst (λ (r : ReachView). TookPages b r lane from (to + 1)) (sym e) (record {
      new = T.new ++ p ∷ [];
      count = omega (arith, T.count, length-append T.new (p ∷ []));
      pages = ap (λ (l : LaneView). l.pages) here ∙ ap (λ (ps : List PageView). ps ++ p ∷ []) T.pages ∙ append_assoc (lane_at b lane).pages T.new (p ∷ []);
      same_given = ap given here ∙ given_added (lane_at m lane).pages p fresh.2 ∙ T.same_given;
      marks = (ap (λ (l : LaneView). l.at_ready) here ∙ T.marks.0, ap (λ (l : LaneView). l.dry) here ∙ T.marks.1);
      rest = record {
        worker = T.rest.worker;
        case = T.rest.case;
        spare = T.rest.spare;
        published = T.rest.published;
        count = length-set m.lanes lane x ∙ T.rest.count;
        others = λ k n. get_or-set_other m.lanes lane k x no_lane n ∙ T.rest.others k n;
      };
    })
  where
    here : lane_at (record m { lanes = set m.lanes lane (with_page (lane_at m lane) p) }) lane ≡ with_page (lane_at m lane) p
    here = get_or-set_same m.lanes lane (with_page (lane_at m lane) p) no_lane within
