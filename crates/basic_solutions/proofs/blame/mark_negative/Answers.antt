use Rattle.std.proofs.Common.{◌≡◌, ◌^◌, refl, ap, arith, ℤ, pos, length, get_or, to_z, of_z}
use Rattle.std.specs.Prelude.{int_lt}
use mir.Syntax.{w64}
use Rattle.lp_base.proofs.Machine.{narrow_again}
use Rattle.dict.proofs.SparseSums.{term_within}
use Rattle.basic_solutions.proofs.BlameSteps.{negative_more}
use Rattle.basic_solutions.proofs.blame.mark_negative.Goals as goal

pub bounds-marks-multiplier : goal.bounds-marks-multiplier
bounds-marks-multiplier c =
    let i = c.loop-multiplier.multiplier-index in
    let at = term_within (2 ^ 63) 0 (length c.args.marks.now) c.args.mult.now i (get_or c.args.mult.now i (0, pos 0)) c.loop-multiplier-test.true refl c.requires.terms in
    omega (arith, at.1, c.loop-multiplier.invariant.size)

pub loop-multiplier-preserved : goal.loop-multiplier-preserved
loop-multiplier-preserved c =
    let n = length c.args.marks.now in
    let i = c.loop-multiplier.multiplier-index in
    let t = get_or c.args.mult.now i (0, pos 0) in
    let at = term_within (2 ^ 63) 0 n c.args.mult.now i t c.loop-multiplier-test.true refl c.requires.terms in
    let e : int_lt (to_z w64 (of_z w64 t.1)) (pos 0) ≡ int_lt t.1 (pos 0) = ap (λ (z : ℤ). int_lt z (pos 0)) (narrow_again t.1 at.2) in
    negative_more n c.args.mult.now i t (int_lt (to_z w64 (of_z w64 t.1)) (pos 0)) c.loop-multiplier.marks _ c.loop-multiplier-test.true refl e c.requires.terms refl c.loop-multiplier.invariant
