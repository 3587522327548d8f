use Rattle.std.proofs.Common.{◌≡◌, take}
use Rattle.cert_parts.specs.PointTerms.{terms_from}
use Rattle.cert_parts.proofs.points.all_terms.Given as goal

abbrev pub invariant-loop-at : goal.invariant-loop-at
invariant-loop-at l = l.made ≡ terms_from 0 (take l.at l.numbers)
