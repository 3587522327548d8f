use Rattle.mps_tables.proofs.Keys.{found, missing}
use Rattle.mps_tables.proofs.names.Names.place.Goals as goal

pub returns-in-Some-clause-value : goal.returns-in-Some-clause-value
returns-in-Some-clause-value c = rw (← c.self.view_is) (found c.args.name.now c.self.inside.held.keys _ c.in-Some.ensures.index)

pub returns-in-None-clause-value : goal.returns-in-None-clause-value
returns-in-None-clause-value c = rw (← c.self.view_is) (missing c.args.name.now c.self.inside.held.keys _ c.in-None.ensures.index c.len.ensures.len)
