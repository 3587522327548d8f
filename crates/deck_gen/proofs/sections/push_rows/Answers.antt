use Rattle.std.specs.Prelude.{codes}
use Rattle.deck_gen.specs.Generator.{row_line}
use Rattle.deck_gen.proofs.Joins.{joined_all}
use Rattle.deck_gen.proofs.sections.push_rows.Goals as goal

pub returns : goal.returns
returns c = joined_all row_line c.loop-row.row c.args.sizes.rows c.args.out.now.items c.push_text.new.out.items c.loop-row.out.items (codes "ROWS\n N cost\n") c.loop-row-test.false c.loop-row.auto.row-end c.in_ok-push_text.ensures c.loop-row.invariant
