use Rattle.std.proofs.Common.{◌≡◌, ◌∙◌, ◌++◌, ◌∷◌, [], ap, subst, sym, true}
use Rattle.std.specs.Prelude.{IsTrue}
use Rattle.std.specs.Option.{option_copied}
use Rattle.nogoods.specs.Choices.{pairs_ascend}
use Rattle.derivation.specs.declared.step.Step.TheVariants.{Derived}
use Rattle.derivation.specs.HintRuns.{closes}
use Rattle.derivation.specs.Logs.{no_goods}
use Rattle.tree_certs.specs.Derivations.{resolvent}
use Rattle.tree_certs.specs.Refuting.{ng_at}
use Rattle.tree_certs.proofs.RefutingLaws.{resolvent_resolves, sides_close}
use Rattle.tree_certs.proofs.refuting.resolvent_step.Goals as goal

pub resolvent_of-requires : goal.resolvent_of-requires
resolvent_of-requires c = record { first = c.requires.sides.one.within; second = c.requires.sides.other.within }

pub add_resolvent-requires : goal.add_resolvent-requires
add_resolvent-requires c =
    let d = c.args.made.now in
    let ng = resolvent c.args.path.now (ng_at d.log c.args.first) (ng_at d.log c.args.second) in
    let here = sides_close c.args.case.now (option_copied c.args.best) c.args.path.now c.args.pair d c.args.first c.args.second c.requires.sides c.requires.has_first in
    subst (λ x. closes (no_goods d.log) x c.in_ok-hints.hints ≡ true) (sym c.in_ok-ng.ensures.made) (subst (λ h. closes (no_goods d.log) ng h ≡ true) (sym c.in_ok-hints.ensures) here)

pub returns : goal.returns
returns c =
    let d = c.args.made.now in
    let pushed = c.in_ok-add_resolvent.ensures.log ∙ ap (λ x. d.log ++ Derived x c.in_ok-hints.hints ∷ []) c.in_ok-ng.ensures.made ∙ ap (λ h. d.log ++ Derived (resolvent c.args.path.now (ng_at d.log c.args.first) (ng_at d.log c.args.second)) h ∷ []) c.in_ok-hints.ensures in
    let up = subst (λ ng. IsTrue (pairs_ascend ng)) c.in_ok-ng.ensures.made c.in_ok-ng.ensures.ascending in
    resolvent_resolves c.args.case.now (option_copied c.args.best) c.args.path.now c.args.pair d c.add_resolvent.new.made c.args.first c.args.second c.count-at.result c.requires.sides c.requires.has_first c.requires.has_second up pushed c.add_resolvent.ensures.cuts c.count-at.ensures
