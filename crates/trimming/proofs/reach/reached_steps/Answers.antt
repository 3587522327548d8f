use Rattle.std.proofs.Common.{◌∙◌, ap, arith}
use Rattle.std.proofs.lemmas.List.{length-map}
use Rattle.derivation.specs.Logs.{no_good_of}
use Rattle.trimming.specs.Marks.{marked}
use Rattle.trimming.proofs.MarkLaws.{are_reached, is_first}
use Rattle.trimming.proofs.reach.reached_steps.Goals as goal

pub returns : goal.returns
returns c =
    let first = is_first c.args.log.now c.first_empty-last.result c.first_empty-last.ensures.within c.first_empty-last.ensures.empty c.first_empty-last.ensures.first in
    are_reached c.args.log.now c.first_empty-last.result c.in_ok-marks.marks.items c.in_ok-numbers.numbers c.first_empty-last.ensures.is_log (omega (arith, c.first_empty-last.ensures.within, length-map c.args.log.now no_good_of)) first c.in_ok-marks.ensures.last c.in_ok-marks.ensures.closed c.in_ok-marks.ensures.sound (c.in_ok-numbers.ensures ∙ ap (marked 0) c.as_slice.ensures.value)
