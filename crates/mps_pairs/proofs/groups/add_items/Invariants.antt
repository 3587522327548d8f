use Rattle.std.proofs.Common.{◌≡◌, ◌++◌, None, length, map}
use Rattle.mps_lex.specs.Kinds.{fields}
use Rattle.decks.specs.Spelling.{item_of, items_in}
use Rattle.decks.specs.Faults.{items_fault}
use Rattle.mps_tables.specs.Known.{bounds_with}
use Rattle.mps_pairs.proofs.groups.add_items.Given as goal

abbrev pub invariant-loop-kind : goal.invariant-loop-kind
invariant-loop-kind l = record {
  right : items_fault l.rows l.columns (bounds_with l.bounds.columns) (items_in (fields l.rest)) ≡ None;
  items : l.items ++ map (item_of l.rows l.columns) (items_in (fields l.rest)) ≡ l.fn.items ++ map (item_of l.rows l.columns) (items_in (fields l.words));
}

abbrev pub decreases-loop-kind : goal.decreases-loop-kind
decreases-loop-kind l = length l.rest
