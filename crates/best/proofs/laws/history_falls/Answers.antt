use Rattle.best.proofs.Histories as histories
use Rattle.best.proofs.laws.history_falls.Goals as goal

pub returns : goal.returns
returns g c = histories.history_falls g.T.Entry.is_lower
