use Rattle.std.proofs.Common.{ℕ, ℤ, sym, subst, arith, ◌∙◌, ap, ◌<◌, ◌^◌, rules, FitsSigned}
use Rattle.std.specs.Prelude.{unsigned_abs}
use Rattle.std.proofs.lemmas.Int.{to_z-of_z}
use mir.Syntax.{w64}
use Rattle.lpcc_case.specs.Points.{coefficient}
use Rattle.dict.proofs.SparseSums.{coefficient_at, coefficient_small}
use Rattle.dict.proofs.Commons.{look_past}
use Rattle.dict.proofs.row.number_in.Goals as goal

pub returns-then-term-e-clause-value : goal.returns-then-term-e-clause-value
returns-then-term-e-clause-value c =
    let f : FitsSigned w64 c.term_at-term.result.1 = search rules in
    to_z-of_z w64 c.term_at-term.result.1 f
    ∙ sym (coefficient_at (2 ^ 63) 0 c.args.places c.args.entries.now c.loop-i.i c.term_at-term.result c.loop-i-test.true c.term_at-term.ensures c.requires)
    ∙ ap (λ (e : ℕ). coefficient c.args.entries.now e) c.if-term-e.true

pub returns-then-term-e-2-clause-value : goal.returns-then-term-e-2-clause-value
returns-then-term-e-2-clause-value c =
    sym (look_past (2 ^ 63) 0 c.args.places c.args.entries.now c.loop-i.i c.args.e c.term_at-term.result (coefficient c.args.entries.now c.args.e) c.loop-i-test.true c.term_at-term.ensures c.requires c.if-term-e-2.true c.loop-i.invariant)

pub returns-then-term-e-clause-narrow : goal.returns-then-term-e-clause-narrow
returns-then-term-e-clause-narrow c =
    subst (λ (z : ℤ). unsigned_abs z < 2 ^ 63) (sym (returns-then-term-e-clause-value c)) (coefficient_small (2 ^ 63) 0 c.args.places c.args.entries.now c.args.e (omega arith) c.requires)
