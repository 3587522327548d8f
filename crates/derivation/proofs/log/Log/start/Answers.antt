use Rattle.derivation.specs.declared.step.Step.TheVariants.{Start}
use Rattle.derivation.proofs.Growth.{grown}
use Rattle.derivation.proofs.log.Log.start.Goals as goal

pub invariant_of-self-2 : goal.invariant_of-self-2
invariant_of-self-2 c = rw c.in_ok-push.ensures.ok (grown c.self.inside.held (Start c.args.ng) c.self.invariant tt)
