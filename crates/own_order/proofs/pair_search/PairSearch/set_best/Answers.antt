use Rattle.std.proofs.Common.{sym, subst}
use Rattle.own_order.specs.Searching.{IsTrueOf}
use Rattle.own_order.proofs.Findings.{true_best}
use Rattle.own_order.proofs.pair_search.PairSearch.set_best.Goals as goal

pub returns-clause-found : goal.returns-clause-found
returns-clause-found c =
    let a = c.args.case.now in
    let before = subst (IsTrueOf a) (sym c.self.view_is) c.requires.found in
    true_best a (record { best = c.self.inside.best; cuts = c.self.inside.cuts.items }) c.args.point before c.requires.point
