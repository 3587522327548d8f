use Rattle.std.proofs.Common.{◌+◌, ap, ◌∙◌}
use Rattle.migrating.specs.Making.{noted}
use Rattle.migrating.proofs.Lasting.{last_more}
use Rattle.migrating.proofs.hinting.last_hints.Goals as goal

pub loop-at-preserved : goal.loop-at-preserved
loop-at-preserved c =
    last_more c.args.lines.now c.loop-at.at c.index-lines-at.result c.loop-at.last.items c.note_hints.new.last.items c.loop-at-test.true c.index-lines-at.is c.loop-at.invariant.0 c.loop-at.invariant.1
    (c.note_hints.ensures ∙ ap (noted c.loop-at.last.items (c.loop-at.at + 1)) c.hints_of.ensures)
