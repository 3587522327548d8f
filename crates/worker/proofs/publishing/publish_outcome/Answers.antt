use Rattle.worker.proofs.OwnLaws.{still_read}
use Rattle.worker.proofs.publishing.publish_outcome.Goals as goal

pub returns-in-Cut-clause-read : goal.returns-in-Cut-clause-read
returns-in-Cut-clause-read c = λ piece read. still_read c.args.reach.now c.publish.new.reach piece c.publish.ensures.same read
