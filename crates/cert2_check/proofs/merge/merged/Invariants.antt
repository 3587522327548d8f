use Rattle.std.proofs.Common.{◌≡◌, true, ◌+◌, ◌++◌, length}
use Rattle.lp_base.specs.Ascending.{ascends_by, number_of}
use Rattle.cert2_text.specs.Wholes.{together}
use Rattle.cert2_check.proofs.merge.merged.Given as goal

abbrev pub invariant-loop-term : goal.invariant-loop-term
invariant-loop-term l =
    (l.all ++ together l.list l.own ≡ together l.fn.list l.fn.own) × (ascends_by number_of l.list ≡ true) × (ascends_by number_of l.own ≡ true)

abbrev pub decreases-loop-term : goal.decreases-loop-term
decreases-loop-term l = length l.list + length l.own
