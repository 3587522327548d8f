use Rattle.std.proofs.Common.{subst}
use Rattle.std.proofs.lemmas.Int.{to_z-of_z}
use Rattle.std.proofs.lemmas.Result.{err_from_is_err_and}
use mir.Syntax.{w128}
use Rattle.lp_base.proofs.Machine.{narrow_again}
use Rattle.cert_check.specs.Results.{NamesFirst}
use Rattle.cert_check.proofs.Judged.{value_again}
use Rattle.cert2_check.specs.Acceptance2.{FrontFails}
use Rattle.cert2_check.specs.Results2.{FrontPasses}
use Rattle.parallel_check.proofs.Lines.{front_refused, lines_refused, optimal_accepted}
use Rattle.parallel_check.proofs.many.judge_optimal1.Goals as goal

pub returns-in_err-value-clause-refused : goal.returns-in_err-value-clause-refused
returns-in_err-value-clause-refused g c =
    let a = c.args.case.now in
    let line = c.args.line.now in
    let p = err_from_is_err_and c.from_residual.result c.from_residual.ensures.1 in
    rw (p.1, p.2) (front_refused a line c.args.z c.args.lines.now c.in_err-value.field-0.0
    (subst (λ y. NamesFirst (FrontFails a line y) c.in_err-value.field-0.0) (to_z-of_z w128 c.args.z c.ranges.z) c.in_err-value.ensures.refused))

pub returns-in_err-judge_lines1-clause-refused : goal.returns-in_err-judge_lines1-clause-refused
returns-in_err-judge_lines1-clause-refused g c =
    let a = c.args.case.now in
    let line = c.args.line.now in
    let p = err_from_is_err_and c.from_residual-in_err-judge_lines1.result c.from_residual-in_err-judge_lines1.ensures.1 in
    rw (p.1, p.2) (lines_refused a line c.args.z c.args.lines.now c.in_ok-value.value c.in_err-judge_lines1.field-0.0
    (subst (λ y. FrontPasses a line y c.in_ok-value.value) (to_z-of_z w128 c.args.z c.ranges.z) c.in_ok-value.ensures.passed)
    (value_again c.args.z line.d (to_z-of_z w128 c.args.z c.ranges.z) (narrow_again line.d c.requires.point.narrow)) c.in_err-judge_lines1.ensures.refused)

pub returns-clause-accepted : goal.returns-clause-accepted
returns-clause-accepted g c =
    let a = c.args.case.now in
    let line = c.args.line.now in
    optimal_accepted a line c.args.z c.args.lines.now c.in_ok-value.value
    (subst (λ y. FrontPasses a line y c.in_ok-value.value) (to_z-of_z w128 c.args.z c.ranges.z) c.in_ok-value.ensures.passed)
    (value_again c.args.z line.d (to_z-of_z w128 c.args.z c.ranges.z) (narrow_again line.d c.requires.point.narrow)) c.in_ok-judge_lines1.ensures.passed
