use Rattle.cert_parts.proofs.LineLaws.{lines_made, reached_by, ready_is}
use Rattle.cert_parts.proofs.lines.lines_of.Goals as goal

pub make_lines-requires : goal.make_lines-requires
make_lines-requires c = record {
  ready = ready_is c.args.case.now c.args.known.now c.args.log.now c.in_ok-places.places c.as_slice.result.now c.in_ok-trimmed.trimmed c.steps.result.now c.as_slice-2.result.now c.in_ok-numbers.numbers.items
      c.requires.is_case c.requires.passing c.requires.starts c.requires.named c.in_ok-places.ensures c.as_slice.ensures c.in_ok-trimmed.ensures.trimmed c.steps.ensures.list c.steps.ensures.kept c.steps-2.ensures.kept c.as_slice-2.ensures.value c.in_ok-numbers.ensures;
}

pub returns-clause-lines : goal.returns-clause-lines
returns-clause-lines c = lines_made c.make_lines.result c.args.known.now c.args.log.now c.as_slice.result.now (reached_by c.args.log.now c.in_ok-places.places c.as_slice.result.now c.in_ok-places.ensures c.as_slice.ensures) c.make_lines.ensures.lines
