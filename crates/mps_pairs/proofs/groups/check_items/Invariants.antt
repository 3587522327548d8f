use Rattle.std.proofs.Common.{◌≡◌, ◌+◌, ◌≤◌, length}
use Rattle.mps_lex.specs.Kinds.{fields}
use Rattle.decks.specs.Spelling.{items_in}
use Rattle.decks.specs.Faults.{items_fault}
use Rattle.mps_tables.specs.Known.{bounds_with}
use Rattle.mps_pairs.proofs.groups.check_items.Given as goal

abbrev pub invariant-loop-kind : goal.invariant-loop-kind
invariant-loop-kind l = record {
  fault : items_fault l.rows l.columns (bounds_with l.bounds.columns) (items_in (fields l.rest)) ≡ items_fault l.rows l.columns (bounds_with l.bounds.columns) (items_in (fields l.words));
  so_far : l.count + length (items_in (fields l.rest)) ≡ length (items_in (fields l.words));
  room : l.count + length l.rest ≤ length l.words;
}

abbrev pub decreases-loop-kind : goal.decreases-loop-kind
decreases-loop-kind l = length l.rest
