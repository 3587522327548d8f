use Rattle.settling.proofs.Searches.{true_behind}
use Rattle.settling.proofs.searching.add_known.Goals as goal

pub returns : goal.returns
returns c =
    true_behind c.args.case.now c.args.search.now c.add_cut.new.self c.args.cut c.add_cut.result c.add_cut.ensures.ok c.add_cut.ensures.err c.requires.found c.requires.passes
