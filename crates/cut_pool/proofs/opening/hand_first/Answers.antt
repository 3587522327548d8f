use Rattle.std.proofs.Common.{rules, arith, ◌≡◌, ◌<◌, ◌≤◌, ◌∙◌, refl, sym, ap, subst, ⊎_elim, ℕ, List, [], ◌∷◌, ◌++◌, length, get_or, map, length-set, get_or-set_other}
use Rattle.std.specs.Prelude.{replicate}
use Rattle.std.proofs.lemmas.Bool.{cases_lt}
use Rattle.std.proofs.lemmas.List.{get_or_append_left}
use Rattle.std.specs.Arc.{arc_value}
use Rattle.lpcc_case.specs.Instance.{Instance}
use Rattle.cut_pool.specs.Opened.{RowWaits}
use Rattle.cut_pool.specs.Reaches.{ReachView, TookAll, bare_reach}
use Rattle.cut_pool.proofs.Taking.{Pages, set_here}
use Rattle.cut_pool.proofs.FirstPages.{at_end, first_row}
use Rattle.cut_pool.proofs.opening.hand_first.Goals as goal

pub loop-worker-init : goal.loop-worker-init
loop-worker-init c = record {
  pages = refl;
  reaches_count = c.requires.count;
  handed_count = search rules;
  waits = λ w h. absurd (omega (arith, h));
  all = λ w h. absurd (omega (arith, h));
  took = λ w d h. absurd (omega (arith, h));
  left = λ w _ h. first_row (arc_value c.args.case.now) c.args.lanes.now.items w c.requires.lanes h;
  same = λ w d _ h. c.requires.reaches w d h;
}

pub take_all-requires-clause-waits : goal.take_all-requires-clause-waits
take_all-requires-clause-waits c =
    let i = c.loop-worker.invariant in
    let a = arc_value c.args.case.now in
    let n : ℕ = length c.args.lanes.now.items in
    let lanes : List Pages = c.loop-worker.lanes.items in
    let k : ℕ = c.loop-worker.worker in
    let inside : k < n = omega (arith, c.loop-worker-test.true, c.len-count.ensures) in
    let bare : c.index_mut.result.now ≡ bare_reach a n k = c.index_mut.ensures.value ∙ i.same k c.index_mut.result.now (omega arith) inside in
    let row : c.in_ok-row.row ≡ replicate n 0 = search rules in
    subst (λ (r : List ℕ). RowWaits c.index_mut.result.now.case lanes r k) (sym row) (subst (λ (b : Instance). RowWaits b lanes (replicate n 0) k) (sym (ap (λ (r : ReachView). r.case) bare)) (i.left k (omega arith) inside))

pub loop-worker-preserved : goal.loop-worker-preserved
loop-worker-preserved c =
    let i = c.loop-worker.invariant in
    let a = arc_value c.args.case.now in
    let n : ℕ = length c.args.lanes.now.items in
    let lanes : List Pages = c.loop-worker.lanes.items in
    let after : List Pages = c.take_all.new.lanes.items in
    let reaches : List ReachView = c.loop-worker.reaches.items in
    let handed : List (List ℕ) = c.loop-worker.handed.items in
    let row : List ℕ = c.take_all.new.row in
    let k : ℕ = c.loop-worker.worker in
    let e = c.take_all.ensures in
    let inside : k < n = omega (arith, c.loop-worker-test.true, c.len-count.ensures) in
    let known : k < length reaches = omega (arith, inside, i.reaches_count) in
    let was : c.index_mut.result.now ≡ bare_reach a n k = c.index_mut.ensures.value ∙ i.same k c.index_mut.result.now (omega arith) inside in
    let case : c.index_mut.result.now.case ≡ a = ap (λ (r : ReachView). r.case) was in
    let pages : map length after ≡ map length c.args.lanes.now.items = e.counts ∙ i.pages in
    let mine : RowWaits a after row k = subst (λ (b : Instance). RowWaits b after row k) case e.waits in
    let whole : row ≡ map length c.args.lanes.now.items = c.in_ok-take_all.ensures.all ∙ pages in
    let none : c.in_ok-row.row ≡ replicate n 0 = search rules in
    let took : TookAll (bare_reach a n k) c.take_all.new.reach (replicate n 0) (map length c.args.lanes.now.items) =
    subst (λ (t : List ℕ). TookAll (bare_reach a n k) c.take_all.new.reach (replicate n 0) t) whole
    (subst (λ (f : List ℕ). TookAll (bare_reach a n k) c.take_all.new.reach f row) none
    (subst (λ (b : ReachView). TookAll b c.take_all.new.reach c.in_ok-row.row row) was e.took)) in
    let more : c.push.new.self.items ≡ handed ++ row ∷ [] = search rules in
    record {
      pages = pages;
      reaches_count = length-set reaches k c.take_all.new.reach ∙ i.reaches_count;
      handed_count = search rules;
      waits = λ w h. ⊎_elim
          (λ (lt : w < k). subst (λ (t : List ℕ). RowWaits a after t w) (sym (ap (λ (l : List (List ℕ)). get_or l w []) more ∙ get_or_append_left handed (row ∷ []) [] w (omega (arith, lt, i.handed_count))))
          (e.others a w (get_or handed w []) (λ same. absurd (omega (arith, same, lt))) (i.waits w lt)))
          (λ (ge : k ≤ w).
          let same : w ≡ k = omega (arith, h, ge) in
          subst (λ (t : List ℕ). RowWaits a after t w) (sym (ap (λ (l : List (List ℕ)). get_or l w []) more ∙ at_end handed row [] w (omega (arith, same, i.handed_count)))) (subst (λ (v : ℕ). RowWaits a after row v) (sym same) mine))
          (cases_lt w k);
      all = λ w h. ap (λ (l : List (List ℕ)). get_or l w []) more ∙ ⊎_elim
          (λ (lt : w < k). get_or_append_left handed (row ∷ []) [] w (omega (arith, lt, i.handed_count)) ∙ i.all w lt)
          (λ (ge : k ≤ w). at_end handed row [] w (omega (arith, h, ge, i.handed_count)) ∙ whole)
          (cases_lt w k);
      took = λ w d h. ⊎_elim
          (λ (lt : w < k). subst (λ (r : ReachView). TookAll (bare_reach a n w) r (replicate n 0) (map length c.args.lanes.now.items)) (sym (get_or-set_other reaches k w c.take_all.new.reach d (λ same. absurd (omega (arith, same, lt))))) (i.took w d lt))
          (λ (ge : k ≤ w).
          let same : w ≡ k = omega (arith, h, ge) in
          subst (λ (r : ReachView). TookAll (bare_reach a n w) r (replicate n 0) (map length c.args.lanes.now.items)) (sym (set_here reaches k w c.take_all.new.reach d same known))
          (subst (λ (v : ℕ). TookAll (bare_reach a n v) c.take_all.new.reach (replicate n 0) (map length c.args.lanes.now.items)) (sym same) took))
          (cases_lt w k);
      left = λ w ge h. e.others a w (replicate n 0) (λ same. absurd (omega (arith, same, ge))) (i.left w (omega (arith, ge)) h);
      same = λ w d ge h. get_or-set_other reaches k w c.take_all.new.reach d (λ same. absurd (omega (arith, same, ge))) ∙ i.same w d (omega (arith, ge)) h;
    }
