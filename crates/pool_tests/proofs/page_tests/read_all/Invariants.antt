use Rattle.std.proofs.Common.{◌≡◌, ◌≤◌, length}
use Rattle.page.specs.Passes.{IsReaderOf, seen}
use Rattle.pool_tests.proofs.page_tests.read_all.Given as goal

abbrev pub invariant-loop : goal.invariant-loop
invariant-loop l = record {
  ours : IsReaderOf l.page l.pass;
  count : length (seen l.pass) ≡ l.i;
  within : l.i ≤ l.count;
  few : l.right ≤ l.i;
}
