use Rattle.std.proofs.Common.{◌≡◌, ◌≤◌, ◌+◌, drop}
use Rattle.front_text.specs.Problems.{number_of_followers}
use Rattle.front_text.specs.Steps.{terms_in}
use Rattle.front_text.proofs.Walks.{counted}
use Rattle.front_text.proofs.limits.number_of_followers.Given as goal

abbrev pub invariant-loop-line : goal.invariant-loop-line
invariant-loop-line l = (counted (l.number + number_of_followers l.fn.nx (terms_in (drop l.line-index l.fn.lines))) ≡ counted (number_of_followers l.fn.nx (terms_in l.fn.lines))) × (l.number ≤ 1000000)
