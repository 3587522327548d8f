use Rattle.play.proofs.StateLaws.{landed, settled}
use Rattle.play.specs.contracts.desk_state.DeskState.{the_view}
use Rattle.play.proofs.desk_state.DeskState.settle.Goals as goal

pub returns-clause-ok : goal.returns-clause-ok
returns-clause-ok c =
    let v = the_view c.self.inside in
    settled c.args.self.now c.take_open.new.self (record v { flight = c.land.new.flight.items }) c.args.number c.in_ok-ticket.ticket c.args.outcome c.in_ok-ticket.ensures c.in_ok-take_open.ensures.ok
    (landed v c.take_open.new.self c.args.number c.land.new.flight.items c.self.view_is c.land.ensures)
