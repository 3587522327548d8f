use Rattle.std.proofs.Common.{◌∙◌, sym, subst, List}
use Rattle.std.specs.Prelude.{IsTrue}
use Rattle.std.proofs.lemmas.Bool.{false≢true}
use Rattle.nogoods.specs.declared.choice.Choice.{Choice}
use Rattle.nogoods.specs.Choices.{pairs_ascend}
use Rattle.cert_parts.proofs.Choices.{choices_ascend}
use Rattle.cert_parts.proofs.pieces.choices_of.Goals as goal

pub unreachable-requires : goal.unreachable-requires
unreachable-requires c =
    let made = c.as_slice.ensures.value ∙ c.in_ok-list.ensures in
    false≢true ((rw c.in-None.is at c.in_ok-made.ensures.exact).1 (subst (λ (cs : List Choice). IsTrue (pairs_ascend cs)) (sym made) (choices_ascend c.args.piece.now)))
