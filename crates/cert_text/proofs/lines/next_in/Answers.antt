use Rattle.std.proofs.Common.{sym, true, false}
use Rattle.cert_text.proofs.Contents.{takes_line, skips_comment, at_tail}
use Rattle.cert_text.proofs.lines.next_in.Goals as goal

pub returns-then-not-is_comment : goal.returns-then-not-is_comment
returns-then-not-is_comment c =
    takes_line c.args.text.now c.loop-at.rest.now c.split_at.result.0.now c.split_at.result.1.now c.in-Some.at c.loop-at.invariant
    (sym c.in-Some.ensures.place, c.split_at.ensures.front, c.split_at.ensures.back, c.split_at.ensures.back_len, c.in-Some.ensures.within) (sym c.if-not-is_comment.ensures)

pub loop-at-preserved : goal.loop-at-preserved
loop-at-preserved c =
    skips_comment c.args.text.now c.loop-at.rest.now c.split_at.result.0.now c.split_at.result.1.now c.in-Some.at c.loop-at.invariant
    (sym c.in-Some.ensures.place, c.split_at.ensures.front, c.split_at.ensures.back, c.split_at.ensures.back_len, c.in-Some.ensures.within) (sym c.if-not-is_comment.ensures)

pub returns-then-is_content : goal.returns-then-is_content
returns-then-is_content c = at_tail c.args.text.now c.loop-at.rest.now true c.loop-at.invariant (sym c.in_default.ensures.place) (sym c.if-is_content.ensures)

pub returns : goal.returns
returns c = at_tail c.args.text.now c.loop-at.rest.now false c.loop-at.invariant (sym c.in_default.ensures.place) (sym c.if-is_content.ensures)
