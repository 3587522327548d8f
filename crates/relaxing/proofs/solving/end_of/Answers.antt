use Rattle.std.proofs.Common.{[], subst}
use Rattle.lex_simplex.specs.Answers.{IsAnswer}
use Rattle.lex_simplex.specs.declared.answer.LpAnswer.{LpAnswer}
use Rattle.relaxing.proofs.Ends.{Laws, optimal, unbounded}
use Rattle.relaxing.proofs.solving.end_of.Goals as goal

pub returns-in-Optimum-clause-end : goal.returns-in-Optimum-clause-end
returns-in-Optimum-clause-end c =
    let a = c.args.case.now in
    let h = subst (λ (x : LpAnswer). IsAnswer a [] c.args.pivots x) c.in-Optimum.is c.requires in
    let laws : Laws = record {
      truth = c.passed_cut_is_true.ensures;
      active = c.active_cut_excludes_nothing_lower.ensures;
      value = c.value_is_that_of_the_point.ensures;
    } in
    (optimal laws a c.in-Optimum.point c.in-Optimum.field-1 c.value_at.result h.0 h.1 c.value_at.ensures, c.value_at.ensures.lowest)

pub returns-in-Unbounded-clause-end : goal.returns-in-Unbounded-clause-end
returns-in-Unbounded-clause-end c =
    let a = c.args.case.now in
    let h = subst (λ (x : LpAnswer). IsAnswer a [] c.args.pivots x) c.in-Unbounded.is c.requires in
    (unbounded a c.in-Unbounded.field-0 c.in-Unbounded.field-1 h.0 h.1, tt)
