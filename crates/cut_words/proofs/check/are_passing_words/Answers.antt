use Rattle.std.proofs.Common.{take}
use Rattle.cuts.specs.declared.cut.Cut.{Cut}
use Rattle.cut_words.specs.Reading.{cut_of}
use Rattle.cut_words.proofs.Readings.{passing_same}
use Rattle.cut_words.proofs.check.are_passing_words.Goals as goal

pub returns : goal.returns
returns c =
    let p = c.in-Some.parts in
    let read = c.in-Some.ensures.read in
    let cut : Cut = cut_of p.kind (take p.choices c.read_parts.new.choices) (take p.multipliers c.read_parts.new.mult) in
    (λ t. (cut, read.in_place, read.spelled, c.passes.ensures.0 t), λ S. c.passes.ensures.1 (passing_same c.args.case.now cut c.args.words.now read.in_place read.spelled S))
