use Rattle.std.specs.Prelude.{codes}
use Rattle.kkt_front.specs.DeckTexts.{lcp_column}
use Rattle.kkt_front.proofs.Joins.{joined_all}
use Rattle.kkt_front.proofs.lcp.push_columns.Goals as goal

pub returns : goal.returns
returns c = joined_all (lcp_column c.args.lcp.now) c.loop-column.column c.args.lcp.now.size c.args.out.now.items c.push_text.new.out.items c.loop-column.out.items (codes "COLUMNS\n") c.loop-column-test.false c.loop-column.auto.column-end c.in_ok-push_text.ensures c.loop-column.invariant
