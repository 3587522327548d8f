use Rattle.std.proofs.Common.{◌∙◌, ap, arith, rules, pos, get_or, length-set, FitsSigned, w64}
use Rattle.std.proofs.lemmas.List.{take_all}
use Rattle.std.proofs.lemmas.List.FromFn.{fill_by_all}
use Rattle.lp_base.proofs.Machine.{again_64}
use Rattle.lpcc_case.specs.Points.{coefficient}
use Rattle.deck_case.proofs.CostSteps.{written}
use Rattle.deck_case.proofs.objective.dense.Goals as goal

pub loop-column-preserved : goal.loop-column-preserved
loop-column-preserved c =
    let ts = c.args.terms.now in
    let i = c.loop-column.column-index in
    let row = c.loop-column.row.items in
    let fits : FitsSigned w64 (get_or ts i (0, pos 0)).1 = search rules in
    record {
      long = length-set row (get_or ts i (0, pos 0)).0 _ ∙ c.loop-column.invariant.long;
      each = λ j h. written row ts i j (0, pos 0) _ c.requires.ascending c.loop-column-test.true (omega (arith, c.loop-column.invariant.long)) (again_64 _ fits) (c.loop-column.invariant.each j h);
    }

pub returns : goal.returns
returns c =
    let ts = c.args.terms.now in
    fill_by_all (coefficient ts) c.loop-column.row.items c.args.columns (pos 0) c.loop-column.invariant.long
    (λ k h. c.loop-column.invariant.each k h ∙ ap (λ l. coefficient l k) (take_all c.loop-column.column-index ts c.loop-column-test.false))
