use Rattle.std.proofs.Common.{◌<◌, length, sym, subst}
use Rattle.std.specs.Option.{option_copied}
use Rattle.lpcc_case.specs.Pieces.{NamesPairs}
use Rattle.reasons.specs.Reasons.{IsTrueReason}
use Rattle.shrink.specs.Trials.{IsTrial}
use Rattle.shrink.proofs.Reasoning.{found_more}
use Rattle.shrink.proofs.Removing.{All_remove}
use Rattle.shrink.proofs.trying.try_choice.Goals as goal

pub try_program-requires-clause-named : goal.try_program-requires-clause-named
try_program-requires-clause-named c =
    subst (NamesPairs c.args.case.now) (sym c.in_ok-rest.ensures) (All_remove (λ x. x.pair < length c.args.case.now.pairs) c.args.ng.now c.args.k c.requires.named)

pub returns-clause-found : goal.returns-clause-found
returns-clause-found c =
    let a = c.args.case.now in
    let limit = option_copied c.args.limit in
    let shown = subst (IsTrial a c.args.pivots limit c.in_ok-rest.rest) c.in-Kept.is c.in_ok-cut.ensures in
    found_more a c.args.pivots limit c.args.ng.now c.args.found.now.items c.args.k c.in-Kept.reason c.requires.found (subst (λ tight. IsTrueReason a c.args.pivots limit tight c.in-Kept.reason) c.in_ok-rest.ensures shown)
