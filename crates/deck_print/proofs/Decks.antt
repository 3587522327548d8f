-- The deck of slices.
use Rattle.std.specs.Prelude.{ℕ, map}
use Rattle.std.specs.List.{position_or_len}
use Rattle.sense.specs.declared.objective.Sense.TheVariants.{Min}
use Rattle.decks.specs.declared.deck.Deck.{Deck}
use Rattle.decks.specs.Bounds.{settings_in, column_bounds}
use Rattle.decks.specs.Spelling.{is_n, rows_of, kept, column_names, entries_in, row_values_in, deck_row, deck_entries, deck_pairs, deck_groups}
use Rattle.decks.proofs.KeptSlices.{Slices}

abbrev pub deck_by : Slices → ℕ → Deck
deck_by k end = record {
  sense = Min;
  rows = map (deck_row (row_values_in k.rights) (row_values_in k.ranges)) (kept (rows_of k.rows));
  objective = position_or_len (λ r. is_n r.letter) (kept (rows_of k.rows));
  columns = map (column_bounds (settings_in k.bounds)) (column_names k.columns);
  entries = deck_entries (rows_of k.rows) (column_names k.columns) (entries_in k.columns);
  pairs = deck_pairs (rows_of k.rows) (column_names k.columns) k.pairs;
  groups = deck_groups (rows_of k.rows) (column_names k.columns) k.groups;
  end_line = end;
}
