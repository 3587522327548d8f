use Rattle.std.proofs.Common.{sym, subst, refl, length, ◌<◌}
use Rattle.walks.specs.Walks.{Place, IsOnWalk, IsSkipped}
use Rattle.lex_simplex.proofs.Steps.{on_skip}
use Rattle.lex_simplex.proofs.walk.Walk.skip.Goals as goal

pub returns-clause-on : goal.returns-clause-on
returns-clause-on c =
    let a = c.args.case.now in
    let t = c.args.tight.now in
    on_skip a t _ _
    (subst (λ (p : Place). IsOnWalk a t p) (sym c.self.view_is) c.requires.on)
    (subst (λ (p : Place). p.looked < length a.constraints) (sym c.self.view_is) c.requires.looked)
    (subst (λ (p : Place). IsSkipped a t p.looked p.at) (sym c.self.view_is) c.requires.skipped)
    refl
