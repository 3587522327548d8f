use Rattle.std.proofs.Common.{sym, true, false}
use Rattle.front_text.proofs.Lined.{takes_line, at_tail}
use Rattle.front_text.proofs.lines.next_in.Goals as goal

pub returns-in-Some : goal.returns-in-Some
returns-in-Some c =
    takes_line c.args.text.now c.split_at.result.0.now c.split_at.result.1.now c.in-Some.at (sym c.in-Some.ensures.place) c.split_at.ensures.front c.split_at.ensures.back c.split_at.ensures.back_len c.in-Some.ensures.within

pub returns-then-has_bytes : goal.returns-then-has_bytes
returns-then-has_bytes c = at_tail c.args.text.now true (sym c.in_default.ensures.place) (sym c.if-has_bytes.ensures)

pub returns : goal.returns
returns c = at_tail c.args.text.now false (sym c.in_default.ensures.place) (sym c.if-has_bytes.ensures)
