use Rattle.lpcc_case.proofs.PieceLaws.{feasible-in_piece, in_piece-feasible}
use Rattle.lpcc_case.proofs.laws.feasible_exactly_in_a_piece.Goals as goal

pub returns : goal.returns
returns c = λ a p. (feasible-in_piece a p, in_piece-feasible a p)
