use Rattle.derivation.specs.Logs.{no_goods}
use Rattle.search.proofs.Sets.{same_result}
use Rattle.search.proofs.found.next.Goals as goal

pub returns-clause-found : goal.returns-clause-found
returns-clause-found c = same_result c.args.pairs (no_goods c.args.log.now) c.in_ok-blocked.blocked c.args.blocked.now c.next_in.result c.in_ok-blocked.ensures c.next_in.ensures.found
