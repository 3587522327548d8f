use Rattle.deck_case.proofs.BoundSteps.{upper_made}
use Rattle.deck_case.proofs.columns.push_upper.Goals as goal

pub returns-in_ok-push-clause-ok : goal.returns-in_ok-push-clause-ok
returns-in_ok-push-clause-ok c =
    upper_made c.args.made.now.items c.push.new.self.items c.args.column c.args.bound.now.line c.in-Some.value c.in_ok-num.num c.in_ok-num.den c.at_least.result c.in_ok-one_term.field-0 c.args.bound.now.value c.in_ok-push.ensures.items c.at_least.ensures c.in_ok-one_term.ensures c.in_ok-num.ensures.ok.0 c.in_ok-num.ensures.ok.1 c.in_ok-num.ensures.narrow c.in-Some.is
