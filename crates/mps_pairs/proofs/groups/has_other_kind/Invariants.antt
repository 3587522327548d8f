use Rattle.std.proofs.Common.{◌≡◌, length}
use Rattle.mps_lex.specs.Kinds.{fields}
use Rattle.mps_pairs.proofs.GroupWords.{has_other}
use Rattle.mps_pairs.proofs.groups.has_other_kind.Given as goal

abbrev pub invariant-loop-kind : goal.invariant-loop-kind
invariant-loop-kind l = has_other (fields l.rest) ≡ has_other (fields l.words)

abbrev pub decreases-loop-kind : goal.decreases-loop-kind
decreases-loop-kind l = length l.rest
