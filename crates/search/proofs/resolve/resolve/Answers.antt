use Rattle.derivation.specs.Logs.{no_goods}
use Rattle.search.proofs.Resolving.{first_resolvent}
use Rattle.search.proofs.resolve.resolve.Goals as goal

pub returns : goal.returns
returns c =
    first_resolvent (no_goods c.args.log.now) c.args.sides.now c.in_ok-marks.marks.items c.in_ok-hints.hints.items c.args.first c.args.second c.choices_of.result.now c.choices_of-2.result.now c.choices_of.ensures.list c.choices_of-2.ensures.list c.in_ok-marks.ensures.size c.in_ok-marks.ensures.first c.in_ok-marks.ensures.second c.in_ok-hints.ensures c.requires.first c.requires.second
