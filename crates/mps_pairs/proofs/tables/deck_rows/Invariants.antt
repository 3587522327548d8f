use Rattle.std.proofs.Common.{◌≡◌, map, take}
use Rattle.decks.specs.Spelling.{kept, deck_row}
use Rattle.mps_pairs.proofs.tables.deck_rows.Given as goal

abbrev pub invariant-loop-index : goal.invariant-loop-index
invariant-loop-index l = l.found ≡ map (deck_row l.rights.values l.ranges.values) (kept (take l.index l.rows))
