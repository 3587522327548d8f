use Rattle.cert_write.proofs.Pushes.{lines_nil, pushes, pushed, two, on_ok, log_text, log_more, log_is}
use Rattle.std.proofs.Common.{◌++◌, ap, ◌∙◌}
use Rattle.cert_text.specs.Spelling.{line_words}
use Rattle.cert_write.specs.Writing.{text_line}
use Rattle.cert_write.proofs.write.push_log.Goals as goal

pub loop-line-preserved : goal.loop-line-preserved
loop-line-preserved c =
    pushes log_text (λ x. text_line (line_words x)) log_more c.loop-line.out.items c.push_line.new.out.items _ c.loop-line.line-index c.args.lines.now c.line-item.result
    c.loop-line-test.true (c.in_ok-push_line.ensures ∙ ap (λ x. c.loop-line.out.items ++ text_line (line_words x)) c.line-item.is) c.loop-line.invariant

pub returns : goal.returns
returns c =
    let so_far = pushed log_text lines_nil c.loop-line.out.items _ c.loop-line.line-index c.args.lines.now c.loop-line-test.false c.loop-line.invariant in
    on_ok c.push_end.result _ _ (two c.args.out.now.items c.loop-line.out.items c.push_end.new.out.items (log_text c.args.lines.now) _ _ so_far (log_is c.args.lines.now)) c.push_end.ensures
