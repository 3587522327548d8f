use Rattle.std.proofs.Common.{◌∙◌, refl, ap, rules, length, FitsSigned}
use mir.Syntax.{w128}
use Rattle.std.proofs.lemmas.Int.{to_z-of_z}
use Rattle.lp_base.proofs.Machine.{narrow_again}
use Rattle.basic_solutions.proofs.Lowest.{cost_cut}
use Rattle.basic_solutions.proofs.cuts_of_rows.lowest_cost_cut.Goals as goal

pub returns : goal.returns
returns c =
    let fits : FitsSigned w128 c.from.result = search rules in
    cost_cut c.args.case.now c.args.tight.now c.in_ok-ng.ng c.args.dict.now (length c.args.dict.now.nonbasic) _ c.in_ok-ng.mult _ _ _ c.args.point.now c.nonbasic_forms-forms.ensures.kept c.requires.sized c.requires.placed c.requires.named (ap length c.constraints.ensures.list) c.requires.stuck c.requires.value c.in_ok-ng.ensures (narrow_again c.denominator.result c.denominator.ensures.narrow ∙ c.denominator.ensures.value) (to_z-of_z w128 c.from.result fits ∙ c.from.ensures ∙ narrow_again c.constant.result c.constant.ensures.narrow ∙ c.constant.ensures.value) refl
