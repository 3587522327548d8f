use Rattle.std.proofs.Common.{take}
use Rattle.edit_solving.specs.Meanings.{AreOwn}
use Rattle.edit_solving.proofs.meanings.named_terms.Given as goal

abbrev pub invariant-loop-term : goal.invariant-loop-term
invariant-loop-term l = AreOwn l.columns l.relation (take l.term-index l.terms) l.named
