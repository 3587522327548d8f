use Rattle.std.proofs.Common.{◌≡◌, ◌∙◌, ap, subst, List}
use Rattle.std.specs.Prelude.{IsTrue}
use Rattle.std.proofs.lemmas.Bool.{false≢true}
use Rattle.nogoods.specs.declared.choice.Choice.{Choice}
use Rattle.nogoods.specs.Choices.{pairs_ascend}
use Rattle.basic_solutions.proofs.BlameSteps.{blamed_ascends}
use Rattle.basic_solutions.proofs.blame.blamed_of.Goals as goal

pub unreachable-requires : goal.unreachable-requires
unreachable-requires c =
    let ascends : IsTrue (pairs_ascend c.choices.result.now) = subst (λ (cs : List Choice). IsTrue (pairs_ascend cs)) (Rattle.std.proofs.Common.sym c.choices.ensures.list) c.choices.ensures.ascending in
    let made = c.deref.ensures.value ∙ c.in_ok-choices.ensures in
    false≢true ((rw c.in-None.is at c.in_ok-ng.ensures.exact).1 (subst (λ (cs : List Choice). IsTrue (pairs_ascend cs)) (Rattle.std.proofs.Common.sym made) (blamed_ascends c.args.case.now c.args.mult.now c.choices.result.now ascends)))
