use Rattle.std.proofs.Common.{◌≡◌, true, rules}
use Rattle.worker.proofs.OwnLaws.{own_passes, own_settles}
use Rattle.worker.proofs.piece.by_own.Goals as goal

pub returns-clause-passes : goal.returns-clause-passes
returns-clause-passes c = own_passes c.args.case.now c.args.options.now c.args.ticket.now c.in_ok-outcome.outcome c.in_ok-outcome.ensures.outcome

pub returns-clause-settles : goal.returns-clause-settles
returns-clause-settles c =
    let own : c.is_own.result ≡ true = search rules in
    λ r read. own_settles c.args.case.now c.args.options.now c.args.ticket.now r c.in_ok-outcome.outcome c.in_ok-outcome.ensures.outcome (c.is_own.ensures own) read
