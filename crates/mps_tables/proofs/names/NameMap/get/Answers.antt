use Rattle.std.proofs.Common.{◌∙◌}
use Rattle.mps_tables.proofs.Keys.{named_shown}
use Rattle.mps_tables.proofs.names.NameMap.get.Goals as goal

pub returns : goal.returns
returns g c = rw (← c.self.view_is) (c.copied.ensures ∙ c.get.ensures.value ∙ named_shown c.args.name.now c.self.inside.held.entries)
