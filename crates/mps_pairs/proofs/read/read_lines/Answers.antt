use Rattle.std.proofs.Common.{sym, ◌∙◌, rules}
use Rattle.mps_pairs.proofs.Reading.{at_end, goes_on, not_closed, refuses}
use Rattle.mps_pairs.proofs.read.read_lines.Goals as goal

pub returns-in-Ok-true-clause-spelled : goal.returns-in-Ok-true-clause-spelled
returns-in-Ok-true-clause-spelled c =
    at_end c.args.text.now c.loop-rest.rest.now c.first_piece.result.0.now c.first_piece.result.1.now c.loop-rest.state c.loop-rest.tables c.parse_piece.new.tables c.loop-rest.number c.loop-rest.invariant c.first_piece.ensures.pieces c.first_piece.ensures.parts
    c.in-Ok-true.ensures.fault c.in-Ok-true.ensures.tables (sym c.in-Ok-true.field-0-test ∙ c.in-Ok-true.ensures.ends)

pub returns-in-Err-clause-fails : goal.returns-in-Err-clause-fails
returns-in-Err-clause-fails c =
    refuses c.in-Err.fault c.args.text.now c.loop-rest.rest.now c.first_piece.result.0.now c.first_piece.result.1.now c.loop-rest.state c.loop-rest.tables c.loop-rest.number c.loop-rest.invariant c.first_piece.ensures.pieces c.in-Err.ensures.fault

pub loop-rest-preserved : goal.loop-rest-preserved
loop-rest-preserved c =
    goes_on c.args.text.now c.loop-rest.rest.now c.first_piece.result.0.now c.first_piece.result.1.now c.loop-rest.state c.parse_piece.new.state c.loop-rest.tables c.parse_piece.new.tables c.loop-rest.number c.loop-rest.invariant c.first_piece.ensures.pieces c.first_piece.ensures.parts c.first_piece.ensures.some
    c.in-Ok-false.ensures.fault c.in-Ok-false.ensures.state c.in-Ok-false.ensures.tables (sym c.in-Ok-false.field-0-test ∙ c.in-Ok-false.ensures.ends)

pub returns-clause-fails : goal.returns-clause-fails
returns-clause-fails c = not_closed c.args.text.now c.loop-rest.rest.now c.loop-rest.state c.loop-rest.tables c.loop-rest.number c.loop-rest.invariant (search rules)
