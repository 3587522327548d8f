use Rattle.std.proofs.Common.{◌≡◌, ◌≤◌, ◌+◌, drop}
use Rattle.front_text.specs.Problems.{number_of_terms}
use Rattle.front_text.specs.Steps.{terms_in}
use Rattle.front_text.proofs.Walks.{counted}
use Rattle.front_text.proofs.limits.number_of_terms.Given as goal

abbrev pub invariant-loop-line : goal.invariant-loop-line
invariant-loop-line l = (counted (l.number + number_of_terms (terms_in (drop l.line-index l.fn.lines))) ≡ counted (number_of_terms (terms_in l.fn.lines))) × (l.number ≤ 1000000)
