use Rattle.migrating.proofs.Lasting.{all_dropped}
use Rattle.migrating.proofs.hinting.dropped_lines.Goals as goal

pub returns : goal.returns
returns c = all_dropped (λ rows. rows.items) c.args.lines.now c.in_ok-last.last.items c.as_slice.result.now c.rows_of.result c.in_ok-last.ensures c.as_slice.ensures.value c.rows_of.ensures
