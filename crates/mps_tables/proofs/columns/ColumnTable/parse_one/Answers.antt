use Rattle.mps_tables.proofs.Entered.{one_taken}
use Rattle.mps_tables.proofs.columns.ColumnTable.parse_one.Goals as goal

pub returns-clause-ok : goal.returns-clause-ok
returns-clause-ok c =
    one_taken c.add_one.result c.args.rows.now c.args.self.now c.begin.new.self c.judge_one.new.self c.add_one.new.self c.args.column.now c.args.row.now c.args.value.now c.in_ok-index.index c.in_ok-found.found
    c.in_ok-index.ensures.here c.in_ok-found.ensures.ok c.in_ok-index.ensures.index c.in_ok-found.ensures.number c.in_ok-found.ensures.value c.add_one.ensures.ok
