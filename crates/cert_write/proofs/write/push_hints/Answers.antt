use Rattle.cert_write.proofs.Pushes.{spaced_nil, pushes, pushed, hints_text, hints_more}
use Rattle.std.proofs.Common.{◌∷◌}
use Rattle.cert_text.specs.Spelling.{hint_word}
use Rattle.cert_write.proofs.write.push_hints.Goals as goal

pub loop-hint-preserved : goal.loop-hint-preserved
loop-hint-preserved c =
    pushes hints_text (λ h. 32 ∷ hint_word h) hints_more c.loop-hint.out.items c.push_hint.new.out.items _ c.loop-hint.hint-index c.args.hints.now 0
    c.loop-hint-test.true c.in_ok-push_hint.ensures c.loop-hint.invariant

pub returns : goal.returns
returns c = pushed hints_text spaced_nil c.loop-hint.out.items _ c.loop-hint.hint-index c.args.hints.now c.loop-hint-test.false c.loop-hint.invariant
