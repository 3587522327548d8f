use Rattle.settling.proofs.Searches.{nothing_true}
use Rattle.settling.proofs.searching.new_search.Goals as goal

pub returns : goal.returns
returns c = nothing_true c.args.case.now c.in_ok-search.search c.in_ok-search.ensures
