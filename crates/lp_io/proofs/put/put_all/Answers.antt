use Rattle.std.proofs.Common.{arith, ap, length, length-drop}
use Rattle.std.proofs.lemmas.List.{take_rest}
use Rattle.lp_io.proofs.Moves.{appends_more}
use Rattle.lp_io.proofs.put.put_all.Goals as goal

pub loop-at-preserved : goal.loop-at-preserved
loop-at-preserved g c =
    let text = c.args.text.now in
    let at = c.loop-at.at in
    record {
      within = omega (arith, c.in_ok-at.ensures.within, ap length (take_rest text at), length-drop at text);
      put = appends_more _ _ _ text at c.in_ok-at.field-0 c.loop-at.invariant.put c.in_ok-at.ensures.appended;
      later = omega (arith, c.in_ok-at.ensures.counted.later);
    }
