use Rattle.std.proofs.Common.{◌∙◌, ◌++◌, ◌∷◌, [], ap, subst}
use Rattle.std.specs.Prelude.{IsTrue}
use Rattle.std.specs.Option.{option_copied}
use Rattle.nogoods.specs.Choices.{pairs_ascend}
use Rattle.derivation.specs.declared.step.Step.TheVariants.{Start}
use Rattle.tree_certs.proofs.RefutingLaws.{leaf_refutes}
use Rattle.tree_certs.proofs.refuting.leaf.Goals as goal

pub returns : goal.returns
returns c =
    let d = c.args.made.now in
    let up = subst (λ ng. IsTrue (pairs_ascend ng)) c.held_no_good-held.ensures.same c.held_no_good-held.ensures.ascending in
    let pushed = c.in_ok-add_leaf.ensures.log ∙ ap (λ ng. d.log ++ Start ng ∷ []) (c.in_ok-ng.ensures ∙ c.held_no_good-held.ensures.same) in
    let more = c.in_ok-add_leaf.ensures.cuts ∙ ap (λ x. d.cuts ++ x ∷ []) c.in_ok-copied.ensures in
    leaf_refutes c.args.case.now (option_copied c.args.best) c.args.path.now c.args.cut.now d c.add_leaf.new.made c.count-at.result c.requires.sound c.requires.named c.requires.cut up pushed more c.count-at.ensures
