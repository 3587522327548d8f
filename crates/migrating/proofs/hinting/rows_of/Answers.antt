use Rattle.std.proofs.Common.{refl}
use Rattle.migrating.proofs.Lasting.{row_more}
use Rattle.migrating.proofs.hinting.rows_of.Goals as goal

pub loop-line-preserved : goal.loop-line-preserved
loop-line-preserved c =
    row_more c.args.last.now c.loop-line.line _ c.loop-line.rows.items c.add_to_row.new.rows.items c.loop-line-test.true refl c.loop-line.invariant c.in_ok-add_to_row.ensures.size c.in_ok-add_to_row.ensures.each
