use Rattle.std.proofs.Common.{◌+◌, ◌-◌, ◌≡◌, sym, subst, arith}
use Rattle.std.specs.Prelude.{IsPermutation}
use Rattle.dict.specs.Dictionaries.{Dictionary}
use Rattle.walks.proofs.WideEnds.{wide_dictionary_ends_walk}
use Rattle.walks.specs.Duals.{IsPlaced}
use Rattle.walks.specs.Steps.{IsSized}
use Rattle.lex_simplex.proofs.Steps.{walk_sized}
use Rattle.lex_simplex.proofs.Nexts.{walk_placed}
use Rattle.lex_simplex.proofs.ends.wide_here.Goals as goal

pub nonbasic_forms-requires-clause-sized : goal.nonbasic_forms-requires-clause-sized
nonbasic_forms-requires-clause-sized c = subst (λ (d : Dictionary). IsSized c.args.case.now d) (sym c.dict.ensures) (walk_sized c.args.case.now c.args.tight.now c.args.walk.now c.constraints-constraints.ensures.kept c.requires.on)

pub nonbasic_forms-requires-clause-placed : goal.nonbasic_forms-requires-clause-placed
nonbasic_forms-requires-clause-placed c = subst (λ (d : Dictionary). IsPlaced c.args.case.now d) (sym c.dict.ensures) (walk_placed c.args.case.now c.args.tight.now c.args.walk.now c.constraints-constraints.ensures.kept c.requires.on)

pub returns : goal.returns
returns c =
    let made : c.args.walk.now.steps ≡ c.steps.result - 1 + 1 = omega (arith, c.steps.ensures, c.requires.some) in
    record {
      reached = wide_dictionary_ends_walk c.args.case.now c.args.tight.now c.args.walk.now (c.steps.result - 1) c.in_ok-forms.forms c.requires.on made
          (subst (λ (d : Dictionary). IsPermutation d.nonbasic c.in_ok-forms.forms) c.dict.ensures c.in_ok-forms.ensures.same) c.requires.wide;
      order = c.in_ok-forms.ensures.order;
    }
