use Rattle.std.proofs.Common.{◌≡◌, length}
use Rattle.page.specs.Passes.{IsWriterOf, published}
use Rattle.pool_tests.proofs.page_tests.write_all.Given as goal

abbrev pub invariant-loop : goal.invariant-loop
invariant-loop l = record {
  ours : IsWriterOf l.page l.pass;
  count : length (published l.pass) ≡ l.counter;
}
