use Rattle.std.proofs.Common.{sym, subst, refl}
use Rattle.walks.specs.Steps.{IsPivot}
use Rattle.walks.specs.Walks.{Place, IsOnWalk}
use Rattle.lex_simplex.specs.Rounds.{IsInStage}
use Rattle.lex_simplex.proofs.Steps.{on_pivot, walk_sized}
use Rattle.lex_simplex.proofs.walk.Walk.pivot.Goals as goal

pub exchange-requires-clause-sized : goal.exchange-requires-clause-sized
exchange-requires-clause-sized c =
    walk_sized c.args.case.now c.args.tight.now _ c.constraints-constraints.ensures.kept (subst (λ (p : Place). IsOnWalk c.args.case.now c.args.tight.now p) (sym c.self.view_is) c.requires.on)

pub returns-in-Ok-clause-on : goal.returns-in-Ok-clause-on
returns-in-Ok-clause-on c =
    let a = c.args.case.now in
    let t = c.args.tight.now in
    on_pivot a t _ c.args.row c.args.col _ _ c.exchange.new.dict
    (subst (λ (p : Place). IsOnWalk a t p) (sym c.self.view_is) c.requires.on)
    (subst (λ (p : Place). IsInStage a p) (sym c.self.view_is) c.requires.stage)
    (subst (λ (p : Place). IsPivot a t p.stage p.at c.args.row c.args.col) (sym c.self.view_is) c.requires.pivot)
    c.in-Ok.ensures.exchanged refl refl
