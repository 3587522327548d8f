use Rattle.std.proofs.Common.{◌≡◌, take}
use Rattle.deck_case.specs.CaseParts.{negated}
use Rattle.deck_case.proofs.relations.negated.Given as goal

abbrev pub invariant-loop-column : goal.invariant-loop-column
invariant-loop-column l = l.made ≡ negated (take l.column-index l.terms)
