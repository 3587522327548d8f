use Rattle.std.proofs.Common.{vec_len}
use Rattle.solver_tests.proofs.dictionary_tests.walks_and_back.Given as goal

abbrev pub decreases-loop-row : goal.decreases-loop-row
decreases-loop-row g l = vec_len l.made
