use Rattle.std.proofs.Common.{◌≡◌, take}
use Rattle.front_text.proofs.making.narrow_terms.Given as goal

abbrev pub invariant-loop-term : goal.invariant-loop-term
invariant-loop-term l = l.made ≡ take l.term-index l.fn.terms
