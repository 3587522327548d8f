use Rattle.std.proofs.Common.{rules, arith, ◌≡◌, ◌<◌, ◌∙◌, sym, ap, subst, ℕ, List, [], length, get_or, set}
use Rattle.lpcc_case.specs.Instance.{Instance}
use Rattle.cut_pool.specs.Opened.{RowWaits, Waits}
use Rattle.cut_pool.specs.Reaches.{TookAll, TookPages}
use Rattle.cut_pool.proofs.Taking.{Pages, read_here, lengths_set, row_is_lengths, row_step, others_step, took_step, all_step}
use Rattle.cut_pool.proofs.handing.take_all.Goals as goal

pub hand_out-done-requires-clause-waits : goal.hand_out-done-requires-clause-waits
hand_out-done-requires-clause-waits c = λ j from to.
    let i = c.loop-lane.invariant in
    let lanes : List Pages = c.loop-lane.lanes.items in
    let k : ℕ = c.loop-lane.lane in
    let p : Pages = c.index_mut.result.now in
    let inside : k < length lanes = omega (arith, c.loop-lane-test.true, c.len-lane-end.ensures, i.size) in
    let here : get_or lanes k [] ≡ p = read_here lanes k p [] inside c.index_mut.ensures.value in
    subst (λ (a : Instance). Waits a p c.args.worker j) (sym i.took.case)
    (subst (λ (q : Pages). Waits c.args.reach.now.case q c.args.worker j) here (i.waits.waits k j inside (omega (arith, from, c.of_lane-handed.ensures)) (omega (arith, to, ap length here))))

pub returns-in_err-done-clause-took : goal.returns-in_err-done-clause-took
returns-in_err-done-clause-took c =
    let i = c.loop-lane.invariant in
    let lanes : List Pages = c.loop-lane.lanes.items in
    let row : List ℕ = c.loop-lane.row in
    let k : ℕ = c.loop-lane.lane in
    let known : k < length row = omega (arith, c.loop-lane-test.true, c.len-lane-end.ensures, i.size, i.waits.count) in
    let took : TookPages c.loop-lane.reach c.hand_out-done.new.reach k (get_or row k 0) c.hand_out-done.new.handed = subst (λ (n : ℕ). TookPages c.loop-lane.reach c.hand_out-done.new.reach k n c.hand_out-done.new.handed) c.of_lane-handed.ensures c.hand_out-done.ensures.took in
    subst (λ (t : List ℕ). TookAll c.args.reach.now c.hand_out-done.new.reach c.args.row.now t) (sym c.set.ensures)
    (took_step c.args.reach.now c.loop-lane.reach c.hand_out-done.new.reach c.args.row.now row k c.hand_out-done.new.handed i.took took known)

pub returns-in_err-done-clause-waits : goal.returns-in_err-done-clause-waits
returns-in_err-done-clause-waits c =
    let i = c.loop-lane.invariant in
    let lanes : List Pages = c.loop-lane.lanes.items in
    let row : List ℕ = c.loop-lane.row in
    let k : ℕ = c.loop-lane.lane in
    let p : Pages = c.index_mut.result.now in
    let q : Pages = c.hand_out-done.new.self in
    let n : ℕ = c.hand_out-done.new.handed in
    let e = c.hand_out-done.ensures in
    let inside : k < length lanes = omega (arith, c.loop-lane-test.true, c.len-lane-end.ensures, i.size) in
    let here : get_or lanes k [] ≡ p = read_here lanes k p [] inside c.index_mut.ensures.value in
    let size : length q ≡ length (get_or lanes k []) = e.count ∙ sym (ap length here) in
    subst (λ (t : List ℕ). RowWaits c.args.reach.now.case (set lanes k q) t c.args.worker) (sym c.set.ensures)
    (row_step c.args.reach.now.case lanes row c.args.worker k n q i.waits inside size (omega (arith, e.within, e.count))
    (λ j from to. subst (λ (a : Instance). Waits a q c.args.worker j) i.took.case (e.left j from (omega (arith, to, e.count)))))

pub returns-in_err-done-clause-others : goal.returns-in_err-done-clause-others
returns-in_err-done-clause-others c = λ a w r other R.
    let i = c.loop-lane.invariant in
    let lanes : List Pages = c.loop-lane.lanes.items in
    let k : ℕ = c.loop-lane.lane in
    let p : Pages = c.index_mut.result.now in
    let q : Pages = c.hand_out-done.new.self in
    let e = c.hand_out-done.ensures in
    let inside : k < length lanes = omega (arith, c.loop-lane-test.true, c.len-lane-end.ensures, i.size) in
    let here : get_or lanes k [] ≡ p = read_here lanes k p [] inside c.index_mut.ensures.value in
    let size : length q ≡ length (get_or lanes k []) = e.count ∙ sym (ap length here) in
    others_step a lanes r w k q (i.others a w r other R) inside size (λ j wait. e.others a w j other (subst (λ (t : Pages). Waits a t w j) here wait))

pub returns-in_err-done-clause-counts : goal.returns-in_err-done-clause-counts
returns-in_err-done-clause-counts c =
    let i = c.loop-lane.invariant in
    let lanes : List Pages = c.loop-lane.lanes.items in
    let k : ℕ = c.loop-lane.lane in
    let p : Pages = c.index_mut.result.now in
    let q : Pages = c.hand_out-done.new.self in
    let inside : k < length lanes = omega (arith, c.loop-lane-test.true, c.len-lane-end.ensures, i.size) in
    let here : get_or lanes k [] ≡ p = read_here lanes k p [] inside c.index_mut.ensures.value in
    lengths_set lanes k q (c.hand_out-done.ensures.count ∙ sym (ap length here)) ∙ i.counts

pub loop-lane-preserved : goal.loop-lane-preserved
loop-lane-preserved c =
    let i = c.loop-lane.invariant in
    let lanes : List Pages = c.loop-lane.lanes.items in
    let row : List ℕ = c.loop-lane.row in
    let k : ℕ = c.loop-lane.lane in
    let p : Pages = c.index_mut.result.now in
    let q : Pages = c.hand_out-done.new.self in
    let n : ℕ = c.hand_out-done.new.handed in
    let e = c.hand_out-done.ensures in
    let inside : k < length lanes = omega (arith, c.loop-lane-test.true, c.len-lane-end.ensures, i.size) in
    let known : k < length row = omega (arith, inside, i.waits.count) in
    let here : get_or lanes k [] ≡ p = read_here lanes k p [] inside c.index_mut.ensures.value in
    let size : length q ≡ length (get_or lanes k []) = e.count ∙ sym (ap length here) in
    let took : TookPages c.loop-lane.reach c.hand_out-done.new.reach k (get_or row k 0) n = subst (λ (m : ℕ). TookPages c.loop-lane.reach c.hand_out-done.new.reach k m n) c.of_lane-handed.ensures e.took in
    let whole : n ≡ length q = c.in_ok-done.ensures.all ∙ sym e.count in
    record {
      size = search rules;
      waits = subst (λ (t : List ℕ). RowWaits c.args.reach.now.case (set lanes k q) t c.args.worker) (sym c.set.ensures)
          (row_step c.args.reach.now.case lanes row c.args.worker k n q i.waits inside size (omega (arith, e.within, e.count))
          (λ j from to. subst (λ (a : Instance). Waits a q c.args.worker j) i.took.case (e.left j from (omega (arith, to, e.count)))));
      took = subst (λ (t : List ℕ). TookAll c.args.reach.now c.hand_out-done.new.reach c.args.row.now t) (sym c.set.ensures)
          (took_step c.args.reach.now c.loop-lane.reach c.hand_out-done.new.reach c.args.row.now row k n i.took took known);
      all = λ j h. subst (λ (t : List ℕ). get_or t j 0 ≡ length (get_or (set lanes k q) j [])) (sym c.set.ensures) (all_step lanes row k n j q i.all inside known whole h);
      others = λ a w r other R. others_step a lanes r w k q (i.others a w r other R) inside size (λ j wait. e.others a w j other (subst (λ (t : Pages). Waits a t w j) here wait));
      counts = lengths_set lanes k q size ∙ i.counts;
    }

pub returns-clause-all : goal.returns-clause-all
returns-clause-all c =
    let i = c.loop-lane.invariant in
    row_is_lengths c.loop-lane.row c.loop-lane.lanes.items i.waits.count (λ j h. i.all j (omega (arith, h, c.loop-lane-test.false, c.len-lane-end.ensures, i.size)))
