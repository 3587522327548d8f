use Rattle.std.specs.Option.{option_copied}
use Rattle.cuts.specs.Cuts.{no_good_of}
use Rattle.shrink.proofs.Within.{within_all}
use Rattle.shrink.proofs.probing.shrink_by_probe.Goals as goal

pub loop-choice-preserved : goal.loop-choice-preserved
loop-choice-preserved c =
    let before = c.loop-choice.invariant in
    within_all c.args.case.now (option_copied c.args.limit) (no_good_of c.args.cut) (no_good_of c.loop-choice.made) c.in_ok-made.made before.choices before.fewer c.in_ok-made.ensures
