use Rattle.std.proofs.Common.{◌∙◌}
use Rattle.migrating.specs.Migration.{migrated_lines}
use Rattle.migrating.proofs.Joining.{put_more, row_at}
use Rattle.migrating.proofs.making.migrate_lines.Goals as goal

pub loop-at-preserved : goal.loop-at-preserved
loop-at-preserved c =
    put_more c.args.lines.now _ c.loop-at.made.lists c.put_line.new.made.lists c.loop-at.made.lines c.put_line.new.made.lines (migrated_lines c.args.lines.now) c.loop-at.at c.index-lines-at.result c.in_ok-dropped.dropped.items
    c.as_slice.result.now c.loop-at-test.true c.index-lines-at.is c.in_ok-shared.ensures c.in_ok-dropped.ensures
    (row_at c.args.lines.now c.in_ok-dropped.dropped.items c.loop-at.at _ c.as_slice.result.now c.in_ok-dropped.ensures c.loop-at-test.true (c.as_slice.ensures ∙ c.index.ensures))
    c.in_ok-put_line.ensures.lists c.in_ok-put_line.ensures.lines c.loop-at.invariant
