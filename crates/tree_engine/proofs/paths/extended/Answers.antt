use Rattle.std.proofs.Common.{◌≡◌, ◌∙◌, ap, sym, subst, List}
use Rattle.std.specs.Prelude.{IsTrue}
use Rattle.std.proofs.lemmas.Bool.{false≢true}
use Rattle.nogoods.specs.declared.choice.Choice.{Choice}
use Rattle.nogoods.specs.Choices.{pairs_ascend}
use Rattle.tree_engine.specs.Paths.{with_choice}
use Rattle.tree_engine.proofs.PathLaws.{ascends_with}
use Rattle.tree_engine.proofs.paths.extended.Goals as goal

pub unreachable-requires : goal.unreachable-requires
unreachable-requires c =
    let made : c.as_slice.result.now ≡ with_choice c.args.choice c.args.path.now = c.as_slice.ensures.value ∙ c.in_ok-list.ensures ∙ ap (with_choice c.args.choice) c.choices.ensures.list in
    false≢true ((rw c.in-None.is at c.in_ok-made.ensures.exact).1 (subst (λ (cs : List Choice). IsTrue (pairs_ascend cs)) (sym made) (ascends_with c.args.choice c.args.path.now c.choices.ensures.ascending c.requires)))
