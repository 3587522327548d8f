use Rattle.std.proofs.Common.{rules, arith, ◌∙◌, All, sym, subst}
use Rattle.std.proofs.lemmas.List.Elements.{All-push}
use Rattle.best.specs.Passes.{IsNewPassOf}
use Rattle.best.proofs.calls.make_passes.Goals as goal

pub loop-preserved : goal.loop-preserved
loop-preserved g c =
    let m = c.make_pass.ensures in
    let l = c.loop.invariant in
    let best = c.args.best.now in
    record {
      ours = m.ours ∙ l.ours;
      idle = m.idle.0;
      out = m.idle.1;
      left = omega (arith, m.left, l.left);
      new = subst (All (IsNewPassOf best)) (sym c.in_ok-push.ensures.items) (All-push (IsNewPassOf best) _ _ l.new m.new);
      size = search rules;
    }
