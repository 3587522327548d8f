use Rattle.std.proofs.Common.{take}
use Rattle.derivation.specs.Flags.{Shows}
use Rattle.derivation.proofs.assumed.Assumed.of.Given as goal

abbrev pub invariant-loop-choice : goal.invariant-loop-choice
invariant-loop-choice l = Shows l.assumed (take l.choice-index l.choices)
