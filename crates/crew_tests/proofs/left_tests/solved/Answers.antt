use Rattle.std.proofs.Common.{◌≡◌, true, rules}
use Rattle.worker.proofs.OwnLaws.{own_settles}
use Rattle.crew_tests.proofs.left_tests.solved.Goals as goal

pub returns : goal.returns
returns c =
    let cut : c.is_cut.result ≡ true = search rules in
    own_settles c.args.case.now c.args.options.now c.args.ticket.now c.args.reach.now c.in_ok-outcome.outcome c.in_ok-outcome.ensures.outcome (c.is_cut.ensures cut) c.requires.read
