use Rattle.std.proofs.Common.{◌∙◌}
use Rattle.mps_tables.proofs.Placed.{found_state}
use Rattle.mps_tables.proofs.rows.RowTable.find.Goals as goal

pub returns : goal.returns
returns c = rw (← c.self.view_is) (c.get.ensures ∙ found_state c.self.inside.held c.args.name.now)
