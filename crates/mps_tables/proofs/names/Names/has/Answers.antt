use Rattle.std.proofs.Common.{◌∙◌}
use Rattle.mps_tables.proofs.Keys.{any_shown}
use Rattle.mps_tables.proofs.names.Names.has.Goals as goal

pub returns : goal.returns
returns c = rw (← c.self.view_is) (c.contains.ensures ∙ any_shown c.args.name.now c.self.inside.held.keys)
