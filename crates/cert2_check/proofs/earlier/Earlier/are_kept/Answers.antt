use Rattle.std.proofs.Common.{ℕ, List, ◌≡◌, false, get_or, refl, subst}
use Rattle.std.specs.Prelude.{All}
use Rattle.std.proofs.lemmas.List.{take_all}
use Rattle.std.proofs.lemmas.List.Elements.{All-more}
use Rattle.cert2_check.proofs.earlier.Earlier.are_kept.Goals as goal

pub loop-hint-preserved : goal.loop-hint-preserved
loop-hint-preserved c =
    All-more (λ h. get_or c.args.self.now.dropped h false ≡ false) c.args.hints.now c.loop-hint.hint-index 0 c.loop-hint-test.true c.loop-hint.invariant (c.is_kept.ensures.0 c.if-not-is_kept.false)

pub returns : goal.returns
returns c = (
  λ _. subst (λ (hs : List ℕ). All (λ h. get_or c.args.self.now.dropped h false ≡ false) hs) (take_all c.loop-hint.hint-index c.args.hints.now c.loop-hint-test.false) c.loop-hint.invariant,
  λ _. refl,
)
