use Rattle.mps_tables.proofs.Shapes.{short_row_values, long_row_values}
use Rattle.mps_tables.proofs.row_values.RowValueTable.parse.Goals as goal

pub returns-in_default-clause-fault : goal.returns-in_default-clause-fault
returns-in_default-clause-fault c = short_row_values c.args.rows.now c.args.self.now.set c.args.self.now.values c.args.fields.now c.in_default.len_below

pub returns-in_default-2-clause-fault : goal.returns-in_default-2-clause-fault
returns-in_default-2-clause-fault c = long_row_values c.args.rows.now c.args.self.now.set c.args.self.now.values c.args.fields.now c.in_default.len_at_least
