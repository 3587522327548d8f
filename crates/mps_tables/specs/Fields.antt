-- What the code's fields of a line of BOUNDS show.
use Rattle.mps_tables.specs.declared.bounds.BoundFields.{BoundFields}
use Rattle.decks.specs.Bounds.{BoundWords}

abbrev pub seen_fields : BoundFields → BoundWords
seen_fields f = record { set = f.set.now; column = f.column.now; value = f.value.now }
