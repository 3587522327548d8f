use Rattle.migrating.proofs.Keys.{found, missing}
use Rattle.migrating.proofs.lists.Lists.place.Goals as goal

pub returns-in-Some : goal.returns-in-Some
returns-in-Some c = rw (← c.self.view_is) (found c.args.mult.now c.self.inside.held.keys _ c.in-Some.ensures.index)

pub returns-in-None : goal.returns-in-None
returns-in-None c = rw (← c.self.view_is) (missing c.args.mult.now c.self.inside.held.keys _ c.in-None.ensures.index c.len.ensures.len)
