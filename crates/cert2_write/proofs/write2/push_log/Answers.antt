use Rattle.std.proofs.Common.{◌+◌, [], ◌∷◌, ◌++◌, ap, ◌∙◌, arith}
use Rattle.std.specs.Prelude.{codes}
use Rattle.std.specs.Fmt.{decimal}
use Rattle.cert_write.specs.Writing.{text_line}
use Rattle.cert_write.proofs.Pushes.{lines_nil, pushes, pushed, two, on_ok}
use Rattle.cert2_text.specs.Certs2.{counted}
use Rattle.cert2_text.specs.Spelling2.{line2_words}
use Rattle.cert2_write.proofs.Pushes2.{log_text, log_more, log_is, count_more, count_all}
use Rattle.cert2_write.proofs.write2.push_log.Goals as goal

pub loop-line-preserved : goal.loop-line-preserved
loop-line-preserved c = (
  pushes log_text (λ x. text_line (line2_words x)) log_more c.loop-line.out.items c.push_line.new.out.items _ c.loop-line.line-index c.args.lines.now c.line-item.result
      c.loop-line-test.true (c.in_ok-push_line.ensures ∙ ap (λ x. c.loop-line.out.items ++ text_line (line2_words x)) c.line-item.is) c.loop-line.invariant.0,
  ap (λ n. c.loop-line.count + n) (c.counted-count.ensures.value ∙ ap counted c.line-item.is)
      ∙ count_more c.loop-line.count c.args.lines.now c.loop-line.line-index c.line-item.result c.loop-line-test.true c.loop-line.invariant.1,
  omega (arith, c.counted-count.ensures.small, c.loop-line.invariant.2),
)

pub returns : goal.returns
returns c =
    let so_far = pushed log_text lines_nil c.loop-line.out.items _ c.loop-line.line-index c.args.lines.now c.loop-line-test.false c.loop-line.invariant.0 in
    on_ok c.push_end.result _ _
    (λ e. two c.args.out.now.items c.loop-line.out.items c.push_end.new.out.items (log_text c.args.lines.now) _ _ so_far (log_is c.args.lines.now)
    (e ∙ ap (λ n. c.loop-line.out.items ++ text_line (codes "end" ∷ decimal n ∷ [])) (count_all c.loop-line.count c.args.lines.now c.loop-line.line-index c.loop-line-test.false c.loop-line.invariant.1))) c.push_end.ensures
