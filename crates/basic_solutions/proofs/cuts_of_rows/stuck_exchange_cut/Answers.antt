use Rattle.std.proofs.Common.{refl, length}
use Rattle.basic_solutions.proofs.Lowest.{exchange_cut}
use Rattle.basic_solutions.proofs.cuts_of_rows.stuck_exchange_cut.Goals as goal

pub returns : goal.returns
returns c =
    exchange_cut c.args.case.now c.args.tight.now c.in_ok-ng.ng c.args.dict.now (length c.args.dict.now.nonbasic) c.args.k c.args.row c.falling_sign-sign.result c.in_ok-ng.mult _ c.nonbasic_forms-forms.ensures.kept c.requires.sized c.requires.placed c.requires.named c.requires.constraint c.requires.fixed c.requires.row c.requires.form c.requires.stuck c.falling_sign-sign.ensures c.in_ok-ng.ensures refl
