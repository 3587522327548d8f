use Rattle.std.proofs.Common.{◌≡◌, ◌++◌, drop}
use Rattle.cert_write.proofs.Pushes.{terms_text}
use Rattle.cert_write.proofs.write.push_terms.Given as goal

abbrev pub invariant-loop-term : goal.invariant-loop-term
invariant-loop-term l = l.out.items ++ terms_text (drop l.term-index l.terms) ≡ l.fn.out.items ++ terms_text l.terms
