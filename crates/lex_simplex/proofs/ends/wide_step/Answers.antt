use Rattle.std.proofs.Common.{ℕ, ◌<◌, sym, subst, length}
use Rattle.std.specs.Prelude.{IsPermutation}
use Rattle.dict.specs.Dictionaries.{Dictionary, nonbasic_after}
use Rattle.walks.specs.Walks.{IsWideEnd}
use Rattle.walks.proofs.WideEnds.{wide_pivot_ends_walk}
use Rattle.walks.specs.Duals.{IsPlaced}
use Rattle.walks.specs.Steps.{IsSized}
use Rattle.lex_simplex.proofs.Steps.{walk_sized}
use Rattle.lex_simplex.proofs.Nexts.{walk_placed}
use Rattle.lex_simplex.proofs.EndLaws.{step_inside}
use Rattle.lex_simplex.proofs.ends.wide_step.Goals as goal

pub nonbasic_forms_after-requires-clause-sized : goal.nonbasic_forms_after-requires-clause-sized
nonbasic_forms_after-requires-clause-sized c = subst (λ (d : Dictionary). IsSized c.args.case.now d) (sym c.dict.ensures) (walk_sized c.args.case.now c.args.tight.now c.args.walk.now c.constraints-constraints.ensures.kept c.requires.on)

pub nonbasic_forms_after-requires-clause-placed : goal.nonbasic_forms_after-requires-clause-placed
nonbasic_forms_after-requires-clause-placed c = subst (λ (d : Dictionary). IsPlaced c.args.case.now d) (sym c.dict.ensures) (walk_placed c.args.case.now c.args.tight.now c.args.walk.now c.constraints-constraints.ensures.kept c.requires.on)

pub nonbasic_forms_after-requires-clause-row : goal.nonbasic_forms_after-requires-clause-row
nonbasic_forms_after-requires-clause-row c = (step_inside c.args.case.now c.args.tight.now c.args.walk.now c.args.row c.args.col c.constraints-constraints.ensures.kept c.requires.on c.requires.step).0

pub nonbasic_forms_after-requires-clause-col : goal.nonbasic_forms_after-requires-clause-col
nonbasic_forms_after-requires-clause-col c = subst (λ (d : Dictionary). c.args.col < length d.nonbasic) (sym c.dict.ensures) (step_inside c.args.case.now c.args.tight.now c.args.walk.now c.args.row c.args.col c.constraints-constraints.ensures.kept c.requires.on c.requires.step).1

pub returns : goal.returns
returns c =
    let a = c.args.case.now in
    let t = c.args.tight.now in
    let p = c.args.walk.now in
    record {
      reached = subst (λ (n : ℕ). IsWideEnd a t n c.in_ok-forms.forms) (sym c.steps.ensures)
          (wide_pivot_ends_walk a t p c.args.row c.args.col c.requires.wide.0 c.requires.wide.1 c.in_ok-forms.forms c.constraints-constraints.ensures.kept c.requires.on c.requires.step c.requires.wide.2
          (subst (λ (d : Dictionary). IsPermutation (nonbasic_after c.args.row c.args.col d) c.in_ok-forms.forms) c.dict.ensures c.in_ok-forms.ensures.same));
      order = c.in_ok-forms.ensures.order;
    }
