use Rattle.std.proofs.Common.{take}
use Rattle.cert2_text.specs.Wholes.{said_by}
use Rattle.cert2_check.proofs.Faulting.{dropped_inside}
use Rattle.cert2_check.proofs.Showing.{shows_next, good_next, form_at}
use Rattle.cert2_check.proofs.Judging2.{found_at, none_here, first_more}
use Rattle.cert2_check.proofs.Tested.{tested_at}
use Rattle.cert2_check.proofs.lines2.first_failing.Goals as goal

pub line_fault_known-requires-clause-tested : goal.line_fault_known-requires-clause-tested
line_fault_known-requires-clause-tested c marked =
    tested_at c.args.case.now c.args.value c.args.lines.now c.args.tested.now c.loop-at.at c.loop-at.earlier c.index-lines-at.result c.is_marked-known.result c.loop-at-test.true c.index-lines-at.is c.loop-at.invariant.1 c.requires.tested
    c.is_marked-known.ensures marked

pub returns-in-Some : goal.returns-in-Some
returns-in-Some c =
    found_at c.args.case.now c.args.value c.args.lines.now c.loop-at.at c.loop-at.earlier c.index-lines-at.result c.in-Some.why c.in_ok-why.field-0 c.loop-at-test.true c.index-lines-at.is c.loop-at.invariant.0 c.loop-at.invariant.1
    c.in_ok-why.ensures c.in-Some.is

pub take-requires : goal.take-requires
take-requires c =
    let said = said_by (take c.loop-at.at c.args.lines.now) in
    dropped_inside c.args.case.now c.args.value c.loop-at.earlier said c.index-lines-at.result c.loop-at.invariant.1
    (none_here c.args.case.now c.args.value c.loop-at.earlier said c.index-lines-at.result c.in_ok-why.field-0 c.loop-at.invariant.1 c.in_ok-why.ensures c.in_default.is)

pub loop-at-preserved : goal.loop-at-preserved
loop-at-preserved c =
    let a = c.args.case.now in
    let lines = c.args.lines.now in
    let e = c.loop-at.earlier in
    let x = c.index-lines-at.result in
    let said = said_by (take c.loop-at.at lines) in
    let passes = none_here a c.args.value e said x c.in_ok-why.field-0 c.loop-at.invariant.1 c.in_ok-why.ensures c.in_default.is in (
      first_more a c.args.value lines c.loop-at.at x c.loop-at-test.true c.index-lines-at.is c.loop-at.invariant.0 passes,
      shows_next e c.take.new.self lines c.loop-at.at x c.loop-at-test.true c.index-lines-at.is c.in_ok-take.ensures c.loop-at.invariant.1 (dropped_inside a c.args.value e said x c.loop-at.invariant.1 passes),
      good_next e c.take.new.self x c.in_ok-take.ensures c.loop-at.invariant.2 (form_at lines c.loop-at.at x c.loop-at-test.true c.index-lines-at.is c.requires.form),
    )
