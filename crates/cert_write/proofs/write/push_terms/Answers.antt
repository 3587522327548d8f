use Rattle.cert_write.proofs.Pushes.{spaced_nil, pushes, pushed, terms_text, terms_more}
use Rattle.cert_write.proofs.write.push_terms.Goals as goal

pub loop-term-preserved : goal.loop-term-preserved
loop-term-preserved c = pushes terms_text _ terms_more c.loop-term.out.items c.push_term.new.out.items _ c.loop-term.term-index c.args.terms.now _ c.loop-term-test.true c.in_ok-push_term.ensures c.loop-term.invariant

pub returns : goal.returns
returns c = pushed terms_text spaced_nil c.loop-term.out.items _ c.loop-term.term-index c.args.terms.now c.loop-term-test.false c.loop-term.invariant
