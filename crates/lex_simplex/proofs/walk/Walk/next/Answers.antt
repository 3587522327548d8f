use Rattle.std.proofs.Common.{sym, subst}
use Rattle.walks.specs.Walks.{Place, IsOnWalk}
use Rattle.lex_simplex.specs.Rounds.{IsNext}
use Rattle.lex_simplex.proofs.Steps.{walk_sized}
use Rattle.lex_simplex.proofs.Nexts.{walk_placed}
use Rattle.lex_simplex.proofs.walk.Walk.next.Goals as goal

pub what_next-requires-clause-sized : goal.what_next-requires-clause-sized
what_next-requires-clause-sized c =
    walk_sized c.args.case.now c.args.tight.now _ c.constraints-constraints.ensures.kept (subst (λ (p : Place). IsOnWalk c.args.case.now c.args.tight.now p) (sym c.self.view_is) c.requires.on)

pub what_next-requires-clause-placed : goal.what_next-requires-clause-placed
what_next-requires-clause-placed c =
    walk_placed c.args.case.now c.args.tight.now _ c.constraints-constraints.ensures.kept (subst (λ (p : Place). IsOnWalk c.args.case.now c.args.tight.now p) (sym c.self.view_is) c.requires.on)

pub returns : goal.returns
returns c = subst (λ (p : Place). IsNext c.args.case.now c.args.tight.now p.stage p.at c.what_next.result) c.self.view_is c.what_next.ensures
