use Rattle.std.proofs.Common.{arith}
use Rattle.mps_tables.proofs.Placed.{place_small}
use Rattle.mps_tables.proofs.columns.ColumnTable.add_one.Goals as goal

pub overflow_cast-index : goal.overflow_cast-index
overflow_cast-index c = omega (arith, c.requires.index, place_small c.args.self.now.names c.args.column.now c.requires.few)
