use Rattle.std.proofs.Common.{ℕ, ◌≡◌, subst, arith, length}
use Rattle.basic_solutions.specs.Readings.{AreReadUpto}
use Rattle.basic_solutions.proofs.ReadingSteps.{row_more}
use Rattle.basic_solutions.proofs.reading.readings.Goals as goal

pub loop-row-preserved : goal.loop-row-preserved
loop-row-preserved c =
    row_more c.args.case.now c.args.dict.now c.args.go c.loop-row.row c.loop-row.values.items c.put_row.new.values.items c.requires.sized (omega (arith, c.loop-row-test.true, c.rows-row-end.ensures)) c.put_row.ensures c.loop-row.invariant

pub returns : goal.returns
returns c =
    let all : c.loop-row.row ≡ length c.args.dict.now.rows = omega (arith, c.loop-row-test.false, c.loop-row.auto.row-end, c.rows-row-end.ensures) in
    subst (λ (n : ℕ). AreReadUpto c.args.case.now c.args.dict.now c.args.go c.loop-row.values.items n) all c.loop-row.invariant
