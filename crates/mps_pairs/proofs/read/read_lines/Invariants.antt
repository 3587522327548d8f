use Rattle.std.proofs.Common.{length}
use Rattle.mps_pairs.proofs.Reading.{Reads}
use Rattle.mps_pairs.proofs.read.read_lines.Given as goal

abbrev pub invariant-loop-rest : goal.invariant-loop-rest
invariant-loop-rest l = Reads l.text l.rest l.state l.tables l.number

abbrev pub decreases-loop-rest : goal.decreases-loop-rest
decreases-loop-rest l = length l.rest
