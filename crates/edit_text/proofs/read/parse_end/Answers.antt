use Rattle.std.proofs.Common.{sym}
use Rattle.edit_text.proofs.Walks.{over_more, over_none}
use Rattle.edit_text.proofs.read.parse_end.Goals as goal

pub returns-then-has_bytes : goal.returns-then-has_bytes
returns-then-has_bytes c = over_more c.args.number c.args.behind.now (sym c.if-has_bytes.ensures)

pub returns : goal.returns
returns c = over_none c.args.number c.args.behind.now (sym c.if-has_bytes.ensures)
