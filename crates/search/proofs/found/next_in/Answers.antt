use Rattle.derivation.specs.Logs.{no_goods}
use Rattle.search.proofs.Endings.{next_found}
use Rattle.search.proofs.found.next_in.Goals as goal

pub returns-clause-found : goal.returns-clause-found
returns-clause-found c = next_found c.args.pairs (no_goods c.args.log.now) (no_goods c.run.new.log) c.args.blocked.now c.in_ok-ended.ended c.found_of.result c.found_of.ensures c.in_ok-ended.ensures.grown.adds c.in_ok-ended.ensures.found c.in_ok-ended.ensures.exhausted c.in_ok-ended.ensures.witnessed
