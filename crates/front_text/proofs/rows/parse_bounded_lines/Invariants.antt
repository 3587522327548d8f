use Rattle.std.proofs.Common.{◌≡◌, true, length}
use Rattle.cert_text.proofs.Going.{onto_first}
use Rattle.front_text.specs.Reading.{are_judged}
use Rattle.front_text.specs.Steps.{bounded_in, section_step}
use Rattle.front_text.proofs.rows.parse_bounded_lines.Given as goal

abbrev pub invariant-loop-alloc : goal.invariant-loop-alloc
invariant-loop-alloc l =
    (onto_first l.found (section_step l.fn.kind (bounded_in l.fn.kind l.fn.count) (length l.found) l.lines) ≡ section_step l.fn.kind (bounded_in l.fn.kind l.fn.count) 0 l.fn.lines)
    × (are_judged l.fn.count l.found ≡ true)

abbrev pub decreases-loop-alloc : goal.decreases-loop-alloc
decreases-loop-alloc l = length l.lines.lines
