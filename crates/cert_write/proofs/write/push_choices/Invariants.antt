use Rattle.std.proofs.Common.{◌≡◌, ◌++◌, drop}
use Rattle.cert_write.proofs.Pushes.{choices_text}
use Rattle.cert_write.proofs.write.push_choices.Given as goal

abbrev pub invariant-loop-choice : goal.invariant-loop-choice
invariant-loop-choice l = l.out.items ++ choices_text (drop l.choice-index l.choices) ≡ l.fn.out.items ++ choices_text l.choices
