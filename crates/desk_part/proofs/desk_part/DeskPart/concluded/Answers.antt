use Rattle.desk_part.proofs.CloseLaws.{may_conclude}
use Rattle.desk_part.proofs.desk_part.DeskPart.concluded.Goals as goal

pub certificate-requires-clause-concluded : goal.certificate-requires-clause-concluded
certificate-requires-clause-concluded c = may_conclude c.args.case.now c.args.options.now c.args.self c.args.kind c.requires.carried c.requires.concluded
