use Rattle.std.proofs.Common.{length}
use Rattle.edit_text.proofs.Going.{Keeps}
use Rattle.edit_text.proofs.read.parse_commands.Given as goal

abbrev pub invariant-loop-line : goal.invariant-loop-line
invariant-loop-line l = Keeps l.number l.commands l.rest l.fn.text

abbrev pub decreases-loop-line : goal.decreases-loop-line
decreases-loop-line l = length l.rest
