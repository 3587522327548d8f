use Rattle.std.proofs.Common.{ℕ, List, ◌≡◌, ◌<◌, false, get_or, length, refl, subst}
use Rattle.std.specs.Prelude.{All}
use Rattle.std.proofs.lemmas.List.{take_all}
use Rattle.std.proofs.lemmas.List.Elements.{All-more}
use Rattle.cert2_check.proofs.earlier.Earlier.may_drop.Goals as goal

pub loop-number-preserved : goal.loop-number-preserved
loop-number-preserved c =
    All-more (λ h. (h < length c.args.self.now.no_goods) × (get_or c.args.self.now.dropped h false ≡ false)) c.args.numbers.now c.loop-number.number-index 0 c.loop-number-test.true c.loop-number.invariant
    (c.is_alive.ensures.0 c.if-not-is_alive.false)

pub returns : goal.returns
returns c = (
  λ _. subst (λ (hs : List ℕ). All (λ h. (h < length c.args.self.now.no_goods) × (get_or c.args.self.now.dropped h false ≡ false)) hs) (take_all c.loop-number.number-index c.args.numbers.now c.loop-number-test.false) c.loop-number.invariant,
  λ _. refl,
)
