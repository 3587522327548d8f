use Rattle.std.proofs.Common.{sym, ◌∙◌, rules}
use Rattle.mps_tables.specs.Seen.{shown_row, seen_row}
use Rattle.decks.specs.Spelling.{deck_row}
use Rattle.mps_tables.proofs.Walking.{untold}
use Rattle.mps_pairs.proofs.Walking.{row_more}
use Rattle.mps_pairs.proofs.tables.deck_rows.Goals as goal
use Rattle.mps_pairs.proofs.tables.deck_rows.Goals.{in-Some+in_ok-add_row, in_default}

pub loop-index-preserved : goal.loop-index-preserved
loop-index-preserved c = elim c.match-at.branch [
  | in-Some+in_ok-add_row w ↦
      row_more (deck_row c.args.rights.now.values c.args.ranges.now.values) c.args.rows.now c.loop-index.index (seen_row (w.in-Some.name.now, w.in-Some.row)) c.loop-index.found c.match-at.found
      (sym w.in-Some.ensures) c.loop-index.invariant (w.found-is ∙ w.in_ok-add_row.ensures)
  | in_default w ↦ untold shown_row c.args.rows.now c.loop-index.index c.at.result c.at.ensures w.in_default.is (search rules)
]
