use Rattle.best.proofs.Histories as histories
use Rattle.best.proofs.laws.newest_is_not_above_the_offer.Goals as goal

pub returns : goal.returns
returns g c = histories.newest_is_not_above g.T.Entry.is_lower g.met.T.Entry.irreflexive
