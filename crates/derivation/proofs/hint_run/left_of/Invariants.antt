use Rattle.std.proofs.Common.{◌≡◌, List, ◌++◌, drop}
use Rattle.std.specs.Option.{option_to_list}
use Rattle.nogoods.specs.declared.choice.Choice.{Choice}
use Rattle.derivation.specs.HintRuns.{unassumed}
use Rattle.derivation.specs.Flags.{Shows}
use Rattle.derivation.proofs.hint_run.left_of.Given as goal

abbrev pub invariant-loop-choice : goal.invariant-loop-choice
invariant-loop-choice l = (list : List Choice) → Shows l.assumed list → unassumed list l.choices ≡ option_to_list l.found ++ unassumed list (drop l.choice-index l.choices)
