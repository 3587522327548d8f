use Rattle.mps_tables.proofs.Placed.{is_new}
use Rattle.mps_tables.proofs.names.Names.is_new.Goals as goal

pub returns : goal.returns
returns c = is_new c.args.self.now c.args.name.now c.args.index c.len.result c.requires c.len.ensures
