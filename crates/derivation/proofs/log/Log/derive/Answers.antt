use Rattle.derivation.specs.declared.step.Step.TheVariants.{Derived}
use Rattle.derivation.proofs.Growth.{grown}
use Rattle.derivation.proofs.log.Log.derive.Goals as goal

pub invariant_of-self-2 : goal.invariant_of-self-2
invariant_of-self-2 c =
    rw c.in_ok-push.ensures.ok (grown c.self.inside.held (Derived c.args.ng c.args.hints) c.self.invariant (rw c.self.view_is c.requires))
