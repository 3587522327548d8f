use Rattle.std.proofs.Common.{map, ap, ◌∙◌}
use Rattle.mps_tables.specs.Seen.{shown_entry}
use Rattle.mps_tables.proofs.Keys.{put_shown}
use Rattle.mps_tables.proofs.names.NameMap.put.Goals as goal

pub returns-clause-ok : goal.returns-clause-ok
returns-clause-ok g c = rw (← c.self.view_is) (ap (map shown_entry) c.in_ok-insert.ensures.entries ∙ put_shown c.args.name c.args.value c.self.inside.held.entries)
