use Rattle.std.proofs.Common.{refl, length}
use Rattle.basic_solutions.proofs.Lowest.{stage_cut}
use Rattle.basic_solutions.proofs.cuts_of_rows.stuck_stage_cut.Goals as goal

pub returns : goal.returns
returns c =
    stage_cut c.args.case.now c.args.tight.now c.in_ok-ng.ng c.args.dict.now (length c.args.dict.now.nonbasic) c.args.stage c.args.row c.in_ok-ng.mult _ c.nonbasic_forms-forms.ensures.kept c.requires.sized c.requires.placed c.requires.named c.requires.stage c.requires.row c.requires.stuck c.in_ok-ng.ensures refl
