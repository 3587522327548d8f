use Rattle.desk_part.proofs.SearchLaws.{inserted_ok}
use Rattle.desk_part.proofs.settle.fly.Goals as goal

pub returns-clause-blocked : goal.returns-clause-blocked
returns-clause-blocked c = inserted_ok c.insert.result c.args.ticket.piece c.in_ok-piece.piece c.args.blocked.now c.insert.new.self c.in_ok-piece.ensures c.if-is_err.false c.is_err.ensures.value c.insert.ensures.ok
