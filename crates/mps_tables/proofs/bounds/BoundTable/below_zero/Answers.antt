use Rattle.std.proofs.Common.{sym, ◌∙◌, rules}
use Rattle.mps_tables.proofs.Walking.{below_more, untold}
use Rattle.mps_tables.specs.Seen.{shown_entry}
use Rattle.mps_tables.proofs.bounds.BoundTable.below_zero.Goals as goal
use Rattle.mps_tables.proofs.bounds.BoundTable.below_zero.Goals.{in-Some, in_default}

pub loop-index-preserved : goal.loop-index-preserved
loop-index-preserved c = elim c.match-at.branch [
  | in-Some w ↦ below_more c.self.inside.columns c.loop-index.index (w.in-Some.field-0-0.now, w.in-Some.column) c.loop-index.least c.match-at.least (sym w.in-Some.ensures) c.loop-index.invariant (w.least-is ∙ w.lesser_line-least.ensures)
  | in_default w ↦ untold shown_entry c.self.inside.columns c.loop-index.index c.at.result c.at.ensures w.in_default.is (search rules)
]
