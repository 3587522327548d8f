use Rattle.edit_session.specs.contracts.session.Session.{the_view}
use Rattle.edit_session.proofs.RunLaws.{session_shown}
use Rattle.edit_session.proofs.session.Session.answer.Goals as goal

pub returns-clause-verdict : goal.returns-clause-verdict
returns-clause-verdict c =
    (session_shown (the_view c.self.inside) c.args.self.now c.case.result.now c.one.result c.cuts.result.now c.in_ok-ending.ending c.in_ok-ending.settled.items c.self.view_is c.case.ensures c.one.ensures c.in_ok-ending.ensures.is_case c.in_ok-ending.ensures.answer).0

pub returns-clause-pieces : goal.returns-clause-pieces
returns-clause-pieces c =
    (session_shown (the_view c.self.inside) c.args.self.now c.case.result.now c.one.result c.cuts.result.now c.in_ok-ending.ending c.in_ok-ending.settled.items c.self.view_is c.case.ensures c.one.ensures c.in_ok-ending.ensures.is_case c.in_ok-ending.ensures.answer).1

pub returns-clause-pivots : goal.returns-clause-pivots
returns-clause-pivots c =
    (session_shown (the_view c.self.inside) c.args.self.now c.case.result.now c.one.result c.cuts.result.now c.in_ok-ending.ending c.in_ok-ending.settled.items c.self.view_is c.case.ensures c.one.ensures c.in_ok-ending.ensures.is_case c.in_ok-ending.ensures.answer).2
