use Rattle.std.proofs.Common.{sym}
use Rattle.cert_text.proofs.Cuts.{parts_last}
use Rattle.edit_text.proofs.Walks.{first_line}
use Rattle.edit_text.proofs.read.split_line.Goals as goal

pub returns-in-Some : goal.returns-in-Some
returns-in-Some c =
    first_line c.args.text.now c.split_at.result.0.now c.split_at.result.1.now c.in-Some.at (sym c.in-Some.ensures.place) c.split_at.ensures.front c.split_at.ensures.back c.split_at.ensures.back_len c.in-Some.ensures.within

pub returns : goal.returns
returns c = parts_last 10 c.args.text.now (sym c.in_default.ensures.place)
