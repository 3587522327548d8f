use Rattle.std.proofs.Common.{◌≡◌, ◌≤◌, take}
use Rattle.std.specs.Prelude.{count_by, nat_le}
use Rattle.front_text.proofs.limits.followers_in.Given as goal

abbrev pub invariant-loop-term : goal.invariant-loop-term
invariant-loop-term l = (l.number ≡ count_by (λ t. nat_le l.fn.nx t.0) (take l.term-index l.fn.terms)) × (l.number ≤ l.term-index)
