use Rattle.std.proofs.Common.{sym, ap, ◌∙◌}
use Rattle.front_text.specs.Steps.{line_as}
use Rattle.std.proofs.lemmas.Result.{err_from_is_err_and}
use Rattle.std.specs.Prelude.{codes}
use Rattle.front_text.specs.Reading.{row_at}
use Rattle.front_text.specs.Reading.{is_judged}
use Rattle.front_text.proofs.Going.{line_shorter, section_ends, section_goes_on, section_refused_at}
use Rattle.front_text.proofs.Walks.{passes_push}
use Rattle.front_text.proofs.rows.parse_row_lines.Goals as goal

pub returns-in_err-parse_row_line-clause-found : goal.returns-in_err-parse_row_line-clause-found
returns-in_err-parse_row_line-clause-found c =
    let p = err_from_is_err_and c.from_residual.result c.from_residual.ensures.1 in
    rw (p.1, p.2) (section_refused_at c.in_err-parse_row_line.field-0.0 (codes "row") (row_at c.args.n) c.loop-alloc.found c.len.result c.loop-alloc.lines _ c.len.ensures (sym c.loop-alloc-test.ensures) c.in_err-parse_row_line.ensures.found c.loop-alloc.invariant.0)

pub loop-alloc-smaller : goal.loop-alloc-smaller
loop-alloc-smaller c = line_shorter _ c.loop-alloc.lines c.parse_row_line.new.lines c.in_ok-parse_row_line.field-0 c.in_ok-parse_row_line.ensures.found

pub loop-alloc-preserved : goal.loop-alloc-preserved
loop-alloc-preserved c = (
  section_goes_on (codes "row") (row_at c.args.n) c.loop-alloc.found c.push.new.self c.in_ok-parse_row_line.field-0 c.loop-alloc.lines c.parse_row_line.new.lines _ (sym c.loop-alloc-test.ensures) (ap (λ k. line_as (row_at c.args.n k) c.loop-alloc.lines) (sym c.len.ensures) ∙ c.in_ok-parse_row_line.ensures.found) c.in_ok-push.ensures.ok c.loop-alloc.invariant.0,
  passes_push (is_judged c.args.n) c.loop-alloc.found c.push.new.self c.in_ok-parse_row_line.field-0 c.in_ok-push.ensures.ok c.loop-alloc.invariant.1 c.in_ok-parse_row_line.ensures.right,
)

pub returns-clause-found : goal.returns-clause-found
returns-clause-found c = section_ends (codes "row") (row_at c.args.n) c.loop-alloc.found c.loop-alloc.lines _ (sym c.loop-alloc-test.ensures) c.loop-alloc.invariant.0
