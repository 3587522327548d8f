use Rattle.derivation.specs.Logs.{no_goods}
use Rattle.search.proofs.Concluding.{conclusion_closes, conclusion_is_there}
use Rattle.search.proofs.GrowthLaws.{grown_more}
use Rattle.search.proofs.refutation.conclude.Goals as goal

pub add-requires-clause-closed : goal.add-requires-clause-closed
add-requires-clause-closed c = conclusion_closes c.args.pairs (no_goods c.args.log.now) (no_goods c.add_shorter.new.log) c.in_ok-no_good.field-0 c.args.hints.items c.of_vec.result c.add_shorter.ensures.grown.adds c.in_ok-no_good.ensures c.of_vec.ensures c.requires.follows

pub returns-clause-grown : goal.returns-clause-grown
returns-clause-grown c = grown_more c.args.pairs c.args.log.now c.add_shorter.new.log c.add.new.log c.add_shorter.ensures.grown c.add.ensures.grown

pub returns-clause-empty : goal.returns-clause-empty
returns-clause-empty c = conclusion_is_there (no_goods c.add_shorter.new.log) (no_goods c.add.new.log) c.in_ok-no_good.field-0 c.add.result c.in_ok-no_good.ensures c.add.ensures.added
