use Rattle.std.proofs.Common.{sym, subst, refl, length, ◌<◌}
use Rattle.walks.specs.Steps.{IsFixing}
use Rattle.walks.specs.Walks.{Place, IsOnWalk}
use Rattle.lex_simplex.proofs.Steps.{on_fix, walk_sized}
use Rattle.lex_simplex.proofs.walk.Walk.fix.Goals as goal

pub exchange-requires-clause-sized : goal.exchange-requires-clause-sized
exchange-requires-clause-sized c =
    walk_sized c.args.case.now c.args.tight.now _ c.constraints-constraints.ensures.kept (subst (λ (p : Place). IsOnWalk c.args.case.now c.args.tight.now p) (sym c.self.view_is) c.requires.on)

pub returns-in-Ok-clause-on : goal.returns-in-Ok-clause-on
returns-in-Ok-clause-on c =
    let a = c.args.case.now in
    let t = c.args.tight.now in
    on_fix a t _ c.args.row c.args.col _ _ c.exchange.new.dict
    (subst (λ (p : Place). IsOnWalk a t p) (sym c.self.view_is) c.requires.on)
    (subst (λ (p : Place). p.looked < length a.constraints) (sym c.self.view_is) c.requires.looked)
    (subst (λ (p : Place). IsFixing a t p.looked p.at c.args.row c.args.col) (sym c.self.view_is) c.requires.fixing)
    c.in-Ok.ensures.exchanged refl refl
