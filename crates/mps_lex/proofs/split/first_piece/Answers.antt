use Rattle.std.proofs.Common.{rules}
use Rattle.mps_lex.proofs.Cutting.{piece_ends, piece_goes_on}
use Rattle.mps_lex.proofs.split.first_piece.Goals as goal

pub returns-then-len-text-clause-pieces : goal.returns-then-len-text-clause-pieces
returns-then-len-text-clause-pieces c = piece_goes_on c.args.text.now _ _ _ c.requires c.line_len-len.ensures.len c.split_at.ensures.front c.split_at.ensures.back

pub returns-clause-pieces : goal.returns-clause-pieces
returns-clause-pieces c = piece_ends c.args.text.now _ _ _ c.requires c.line_len-len.ensures.len (search rules) c.split_at-2.ensures.front c.split_at-2.ensures.back
