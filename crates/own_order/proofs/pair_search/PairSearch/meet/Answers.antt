use Rattle.std.proofs.Common.{sym, subst}
use Rattle.own_order.specs.Searching.{IsTrueOf}
use Rattle.own_order.proofs.Findings.{true_after}
use Rattle.own_order.proofs.pair_search.PairSearch.meet.Goals as goal

pub returns-clause-found : goal.returns-clause-found
returns-clause-found c =
    let a = c.args.case.now in
    let before = subst (IsTrueOf a) (sym c.self.view_is) c.requires.found in
    true_after a (record { best = c.self.inside.best; cuts = c.self.inside.cuts.items }) c.push_cut.new.self c.in_ok-cut.cut c.push_cut.result c.push_cut.ensures.ok c.push_cut.ensures.err before c.in_ok-cut.ensures.passes
