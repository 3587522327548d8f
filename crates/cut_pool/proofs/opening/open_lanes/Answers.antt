use Rattle.std.proofs.Common.{rules, arith, ◌≡◌, ◌<◌, ◌≤◌, ◌∙◌, sym, ap, subst, ⊎_elim, List, [], ◌∷◌, ◌++◌, get_or}
use Rattle.std.specs.Prelude.{All}
use Rattle.std.proofs.lemmas.Bool.{cases_lt}
use Rattle.std.proofs.lemmas.List.{get_or_append_left}
use Rattle.std.specs.Arc.{arc_value}
use Rattle.cut_pool.specs.Opened.{IsFirstLane}
use Rattle.cut_pool.specs.Reaches.{ReachView, bare_reach}
use Rattle.cut_pool.proofs.Taking.{Pages}
use Rattle.cut_pool.proofs.FirstPages.{at_end, all_more}
use Rattle.cut_pool.proofs.opening.open_lanes.Goals as goal

pub loop-worker-preserved : goal.loop-worker-preserved
loop-worker-preserved c =
    let i = c.loop-worker.invariant in
    let a = arc_value c.args.case.now in
    let lanes : List Pages = c.loop-worker.lanes.items in
    let reaches : List ReachView = c.loop-worker.reaches.items in
    let lane : Pages = c.in_ok-lane.lane in
    let reach : ReachView = c.in_ok-lane.reach in
    let more : c.push.new.self.items ≡ lanes ++ lane ∷ [] = search rules in
    let others : c.push-in-loop-worker.new.self.items ≡ reaches ++ reach ∷ [] = search rules in
    record {
      lanes_count = search rules;
      reaches_count = search rules;
      lanes = subst (λ (l : List Pages). All (IsFirstLane a c.args.workers) l) (sym more) (all_more (IsFirstLane a c.args.workers) lanes lane i.lanes c.in_ok-lane.ensures.lane);
      reaches = λ k d h. ap (λ (l : List ReachView). get_or l k d) others ∙ ⊎_elim
          (λ (lt : k < c.loop-worker.worker). get_or_append_left reaches (reach ∷ []) d k (omega (arith, lt, i.reaches_count)) ∙ i.reaches k d lt)
          (λ (ge : c.loop-worker.worker ≤ k).
          let same : k ≡ c.loop-worker.worker = omega (arith, h, ge) in
          at_end reaches reach d k (omega (arith, same, i.reaches_count)) ∙ c.in_ok-lane.ensures.reach ∙ ap (bare_reach a c.args.workers) (sym same))
          (cases_lt k c.loop-worker.worker);
    }
