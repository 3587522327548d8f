use Rattle.cert2_check.proofs.Tested.{tested_passes}
use Rattle.cert2_check.proofs.line2.line_fault_known.Goals as goal

pub returns-then-has_list_of : goal.returns-then-has_list_of
returns-then-has_list_of c =
    let more = c.requires.tested c.if-tested.true in
    tested_passes c.args.case.now c.args.value c.args.earlier.now c.args.line.now more.0 more.1 (c.has_list_of.ensures.0 c.if-has_list_of.true)
