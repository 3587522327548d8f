use Rattle.best.proofs.Histories as histories
use Rattle.best.proofs.laws.newest_is_lowest.Goals as goal

pub returns : goal.returns
returns g c = histories.newest_is_lowest g.T.Entry.is_lower g.met.T.Entry.transitive
