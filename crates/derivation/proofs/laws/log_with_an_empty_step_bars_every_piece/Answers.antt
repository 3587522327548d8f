use Rattle.derivation.proofs.LogLaws.{empty-by_start, empty-pieces, empty-points}
use Rattle.derivation.proofs.laws.log_with_an_empty_step_bars_every_piece.Goals as goal

pub returns-clause-by_starts : goal.returns-clause-by_starts
returns-clause-by_starts c = empty-by_start

pub returns-clause-pieces : goal.returns-clause-pieces
returns-clause-pieces c = empty-pieces

pub returns-clause-points : goal.returns-clause-points
returns-clause-points c = empty-points
