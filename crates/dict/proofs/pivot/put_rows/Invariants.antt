use Rattle.std.proofs.Common.{◌≡◌, ◌<◌, length}
use Rattle.std.specs.List.{AllByRecursion}
use Rattle.std.specs.Vec.Iter.{into_iter_items, into_iter_len}
use Rattle.dict.specs.Pivots.{written}
use Rattle.dict.proofs.pivot.put_rows.Given as goal

abbrev pub invariant-loop-i : goal.invariant-loop-i
invariant-loop-i l = record {
  within : AllByRecursion (λ f. f.0 < length l.rows.items) (into_iter_items l.i-iterator);
  left : written (into_iter_items l.i-iterator) l.rows.items ≡ written (into_iter_items l.initial.i-iterator) l.fn.rows.items;
  size : into_iter_len l.i-iterator ≡ length (into_iter_items l.i-iterator);
}
