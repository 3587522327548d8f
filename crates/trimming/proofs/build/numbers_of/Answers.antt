use Rattle.trimming.proofs.KeepLaws.{number_more}
use Rattle.trimming.proofs.build.numbers_of.Goals as goal

pub loop-place-preserved : goal.loop-place-preserved
loop-place-preserved c = number_more c.args.places.now c.loop-place.numbers.items c.args.count c.loop-place.place c.requires.ascending c.loop-place-test.true (c.requires.low c.loop-place.place 0 c.loop-place-test.true) c.loop-place.invariant
