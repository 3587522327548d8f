use Rattle.std.proofs.Common.{refl, get_or}
use Rattle.std.proofs.lemmas.List.Elements.{Contains-get_or}
use Rattle.trimming.proofs.KeepLaws.{kept_inside, kept_follows, kept_result}
use Rattle.trimming.proofs.build.add_place.Goals as goal

pub add-requires-clause-within : goal.add-requires-clause-within
add-requires-clause-within c = kept_inside c.args.log.now c.args.places.now (get_or c.args.places.now c.args.place 0) c.requires.reached c.steps.ensures.kept (Contains-get_or c.args.places.now c.args.place 0 c.requires.within)

pub add-requires-clause-follows : goal.add-requires-clause-follows
add-requires-clause-follows c = kept_follows c.args.log.now c.args.made.now c.args.places.now c.args.numbers.now c.args.place (get_or c.args.places.now c.args.place 0) c.requires.reached c.steps.ensures.kept c.requires.numbered c.requires.within refl c.requires.so_far

pub returns : goal.returns
returns c = kept_result c.args.log.now c.args.made.now c.add.new.made c.args.places.now c.args.numbers.now c.args.place (get_or c.args.places.now c.args.place 0) c.add.result c.requires.reached c.requires.numbered c.requires.within refl c.requires.so_far c.add.ensures
