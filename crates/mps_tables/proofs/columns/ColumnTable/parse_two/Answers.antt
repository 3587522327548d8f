use Rattle.mps_tables.proofs.Entered.{two_taken}
use Rattle.mps_tables.proofs.columns.ColumnTable.parse_two.Goals as goal

pub returns-clause-ok : goal.returns-clause-ok
returns-clause-ok c =
    two_taken c.parse_both.result c.args.rows.now c.args.self.now c.begin.new.self c.parse_both.new.self c.args.column.now c.args.row.now c.args.value.now c.args.second.now c.args.other.now c.in_ok-index.index
    c.in_ok-index.ensures.here c.in_ok-index.ensures.index c.parse_both.ensures.ok
