use Rattle.std.proofs.Common.{◌≡◌, ◌∙◌, ap, sym, subst, List}
use Rattle.std.specs.Prelude.{IsTrue}
use Rattle.std.proofs.lemmas.Bool.{false≢true}
use Rattle.nogoods.specs.declared.choice.Choice.{Choice}
use Rattle.nogoods.specs.Choices.{pairs_ascend}
use Rattle.tree_certs.specs.Derivations.{resolvent}
use Rattle.tree_certs.proofs.Resolutions.{resolvent_ascends}
use Rattle.tree_certs.proofs.resolving.resolvent.Goals as goal

pub unreachable-requires : goal.unreachable-requires
unreachable-requires c =
    let made : c.as_slice.result.now ≡ resolvent c.args.path.now c.args.u.now c.args.v.now = c.as_slice.ensures.value ∙ c.in_ok-list.ensures ∙ ap (λ p. resolvent p c.args.u.now c.args.v.now) c.choices.ensures.list in
    false≢true ((rw c.in-None.is at c.in_ok-made.ensures.exact).1 (subst (λ (cs : List Choice). IsTrue (pairs_ascend cs)) (sym made) (resolvent_ascends c.args.path.now c.args.u.now c.args.v.now c.choices.ensures.ascending)))
