use Rattle.nogoods.specs.Choices.{pair_of, pairs_ascend}
use Rattle.std.proofs.Common.{◌≡◌, List, sym, ap, ◌∙◌, subst}
use Rattle.std.specs.Prelude.{IsTrue, IsSome}
use Rattle.std.specs.List.{remove}
use Rattle.nogoods.specs.declared.choice.Choice.{Choice}
use Rattle.shrink.proofs.Removing.{ascends_remove}
use Rattle.shrink.proofs.trying.without.Goals as goal

pub unreachable-requires : goal.unreachable-requires
unreachable-requires c =
    let left : c.as_slice.result.now ≡ remove c.args.ng.now c.args.k = c.as_slice.ensures.value ∙ c.remove.ensures.items ∙ ap (λ (xs : List Choice). remove xs c.args.k) (c.in_ok-choices.ensures.items ∙ c.choices.ensures.list) in
    let rises : IsTrue (pairs_ascend c.as_slice.result.now) = subst (λ (xs : List Choice). IsTrue (pairs_ascend xs)) (sym left) (ascends_remove pair_of c.args.ng.now c.args.k c.choices.ensures.ascending) in
    let some = c.in_ok-rest.ensures.exact.1 rises in
    let clash = subst IsSome c.in_default.is some in
    cc
