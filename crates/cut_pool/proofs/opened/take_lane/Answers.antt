use Rattle.std.proofs.Common.{◌≢◌, ◌<◌, sym, subst, ◌∙◌, arith, inl, inr, List, length}
use Rattle.std.specs.Prelude.{Option}
use Rattle.cut_pool.specs.Pages.{PageView}
use Rattle.cut_pool.specs.Opened.{Waits}
use Rattle.cut_pool.proofs.Hands.{took_more}
use Rattle.cut_pool.proofs.opened.take_lane.Goals as goal

pub returns-in_err-hand_one-clause-left : goal.returns-in_err-hand_one-clause-left
returns-in_err-hand_one-clause-left c = λ j h lt.
    let i = c.loop-handed.invariant in
    let inside : j < length c.loop-handed.pages.items = omega (arith, lt, i.count) in
    subst (λ (l : List (List (Option PageView))). Waits c.args.reach.now.case l c.args.worker j) (sym c.in_err-hand_one.ensures.err.1) (i.left j h inside)

pub loop-handed-preserved : goal.loop-handed-preserved
loop-handed-preserved c =
    let i = c.loop-handed.invariant in
    let m = c.loop-handed.reach in
    let ok = c.in_ok-hand_one.ensures.ok in
    let within : c.args.lane < length m.lanes = omega (arith, c.requires.lane, i.took.rest.count) in
    record {
      within = omega (arith, c.loop-handed-test.true, c.len.ensures, c.hand_one.ensures.count);
      took = took_more c.args.reach.now m c.hand_one.new.reach c.args.lane c.args.handed.now c.loop-handed.handed ok.0 i.took ok.1 within ok.2;
      left = λ j h lt.
          let other : j ≢ c.loop-handed.handed = λ e. absurd (omega (arith, e, h)) in
          let inside : j < length c.loop-handed.pages.items = omega (arith, lt, c.hand_one.ensures.count) in
          c.hand_one.ensures.others c.args.reach.now.case c.args.worker j (inr other) (i.left j (omega (arith, h)) inside);
      others = λ a w k n wait. c.hand_one.ensures.others a w k (inl n) (i.others a w k n wait);
      count = c.hand_one.ensures.count ∙ i.count;
    }
