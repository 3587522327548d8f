use Rattle.std.proofs.Common.{◌≡◌, true, length}
use Rattle.std.specs.Prelude.{codes}
use Rattle.cert_text.proofs.Going.{onto_first}
use Rattle.front_text.specs.Reading.{are_judged, row_at}
use Rattle.front_text.specs.Steps.{section_step}
use Rattle.front_text.proofs.rows.parse_row_lines.Given as goal

abbrev pub invariant-loop-alloc : goal.invariant-loop-alloc
invariant-loop-alloc l =
    (onto_first l.found (section_step (codes "row") (row_at l.fn.n) (length l.found) l.lines) ≡ section_step (codes "row") (row_at l.fn.n) 0 l.fn.lines)
    × (are_judged l.fn.n l.found ≡ true)

abbrev pub decreases-loop-alloc : goal.decreases-loop-alloc
decreases-loop-alloc l = length l.lines.lines
