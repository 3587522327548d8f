use Rattle.worker.proofs.piece.solve.Goals as goal

pub returns-clause-settles : goal.returns-clause-settles
returns-clause-settles g c = c.in_ok-outcome.ensures.settles c.publish_outcome.new.reach (c.publish_outcome.ensures.read c.args.ticket.now.piece c.requires.read)
