use Rattle.std.proofs.Common.{◌∙◌}
use Rattle.crew_tests.proofs.LeftLaws.{just_readied}
use Rattle.crew_tests.proofs.left_tests.has_caught_up.Goals as goal

pub are_others_dry-requires-clause-case : goal.are_others_dry-requires-clause-case
are_others_dry-requires-clause-case c = c.ready.ensures.readied.case ∙ c.requires.case

pub are_others_dry-requires-clause-reading : goal.are_others_dry-requires-clause-reading
are_others_dry-requires-clause-reading c = just_readied c.args.case.now c.args.ticket.now.piece c.args.reach.now c.ready.new.reach c.requires.case c.ready.ensures.readied c.in_ok-ready.ensures.ok.0
