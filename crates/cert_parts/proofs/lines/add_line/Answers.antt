use Rattle.cert_parts.specs.Lines.{line_at}
use Rattle.cert_parts.proofs.LineLaws.{forms_next, lines_next}
use Rattle.cert_parts.proofs.lines.add_line.Goals as goal

pub returns-clause-lines : goal.returns-clause-lines
returns-clause-lines c = lines_next (line_at c.args.known.now c.args.log.now c.args.places.now) c.args.places.now c.args.at c.in_ok-line.line c.args.made.now c.push.new.self c.requires.within c.in_ok-line.ensures.line c.requires.lines c.in_ok-push.ensures.ok

pub returns-clause-form : goal.returns-clause-form
returns-clause-form c = forms_next c.in_ok-line.line c.args.made.now c.push.new.self c.in_ok-line.ensures.form c.requires.form c.in_ok-push.ensures.ok
