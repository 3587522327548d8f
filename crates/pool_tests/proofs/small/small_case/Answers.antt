use Rattle.pool_tests.proofs.SmallCase.{is_case}
use Rattle.pool_tests.proofs.small.small_case.Goals as goal

pub of_parts-requires : goal.of_parts-requires
of_parts-requires c = rw (c.in_ok-cost.ensures, c.in_ok-constraints.ensures, c.in_ok-pairs.ensures) is_case
