use Rattle.std.proofs.Common.{rules}
use Rattle.parallel_check.proofs.Lines.{tested_at1, found_at1, none_here1, passed_more, passed_all}
use Rattle.parallel_check.proofs.lines1.first_failing.Goals as goal

pub fault_known-requires-clause-tested : goal.fault_known-requires-clause-tested
fault_known-requires-clause-tested c marked =
    tested_at1 c.args.case.now c.args.value c.args.lines.now c.args.tested.now c.loop-at.at c.index-lines-at.result c.is_marked-known.result c.loop-at-test.true c.index-lines-at.is c.requires.tested c.is_marked-known.ensures marked

pub returns-in-Some : goal.returns-in-Some
returns-in-Some c =
    found_at1 c.args.case.now c.args.value c.args.lines.now c.loop-at.at c.loop-at.earlier c.index-lines-at.result c.in-Some.why c.fault_known.result c.loop-at-test.true c.index-lines-at.is c.loop-at.invariant c.fault_known.ensures c.in-Some.is

pub loop-at-preserved : goal.loop-at-preserved
loop-at-preserved c =
    let a = c.args.case.now in
    let x = c.index-lines-at.result in
    passed_more a c.args.value c.args.lines.now c.loop-at.at c.loop-at.earlier c.take_no_good.new.self x c.no_good.result.now c.loop-at-test.true c.index-lines-at.is c.requires.form c.loop-at.invariant
    (none_here1 a c.args.value c.loop-at.earlier x c.fault_known.result c.fault_known.ensures c.in_default.is) c.no_good.ensures c.in_ok-take_no_good.ensures

pub returns : goal.returns
returns c = passed_all c.args.case.now c.args.value c.args.lines.now c.loop-at.at c.loop-at.earlier c.ends_empty.result c.loop-at-test.false (search rules) c.loop-at.invariant c.ends_empty.ensures
