use Rattle.std.proofs.Common.{ap, arith, ◌∙◌, ◌<◌, ◌^◌, rules}
use Rattle.play.specs.Parts.{Part}
use Rattle.play.specs.declared.event.Event.TheVariants.{Draw}
use Rattle.play.specs.declared.event.Ticket.{Ticket}
use Rattle.play.specs.Steps.{after}
use Rattle.desk_part.proofs.DrawLaws.{gives, given, drawn_same}
use Rattle.desk_part.proofs.SearchLaws.{draw_result}
use Rattle.desk_part.specs.contracts.desk_part.DeskPart.{the_view}
use Rattle.desk_part.proofs.desk_part.DeskPart.give.Goals as goal

pub invariant_of-self-2 : goal.invariant_of-self-2
invariant_of-self-2 c =
    let t : Ticket = record { worker = c.args.worker; number = c.self.inside.drawn; piece = c.in_ok-copy.field-0 } in
    draw_result (the_view c.self.inside) t c.self.inside.blocked c.fly.new.blocked c.self.inside.kept c.fly.new.flight.items c.in_ok-fly.ensures.flight c.in_ok-fly.ensures.blocked c.self.invariant

pub returns-clause-ok : goal.returns-clause-ok
returns-clause-ok c =
    let d : Part = the_view c.self.inside in
    let room : c.args.options.now.pieces < 2 ^ 64 = search rules in
    let draws : Part → Part = λ x. after (Draw c.args.worker c.self.inside.drawn c.args.piece) x in
    given c.args.case.now c.args.options.now c.args.self.now _ c.args.worker c.self.inside.drawn c.args.piece
    (gives c.args.case.now c.args.options.now c.args.self.now c.args.worker c.self.inside.drawn c.args.piece c.requires.waiting c.requires.settled c.requires.known c.requires.free (ap (λ (x : Part). x.drawn) c.self.view_is) (omega (arith, c.if-self-options.false)) (omega (arith, room)) c.requires.first)
    (drawn_same d c.fly.new.flight.items c.args.worker c.self.inside.drawn c.in_ok-copy.field-0 c.args.piece c.in_ok-copy.ensures c.in_ok-fly.ensures.flight ∙ ap draws c.self.view_is)
