use Rattle.std.specs.Option.{option_copied}
use Rattle.cuts.specs.Cuts.{no_good_of}
use Rattle.probe.specs.Answers.{IsCutWithin}
use Rattle.shrink.proofs.probing.shrink_by_probe.Given as goal

abbrev pub invariant-loop-choice : goal.invariant-loop-choice
invariant-loop-choice l = IsCutWithin l.case (option_copied l.limit) (no_good_of l.fn.cut) l.made
