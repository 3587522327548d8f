use Rattle.std.proofs.Common.{◌≡◌, sym, subst, refl, length, ◌<◌}
use Rattle.walks.specs.Walks.{Place, IsOnWalk, IsRaised}
use Rattle.lex_simplex.proofs.Steps.{on_raise}
use Rattle.lex_simplex.proofs.walk.Walk.raise.Goals as goal

pub returns-clause-on : goal.returns-clause-on
returns-clause-on c =
    let a = c.args.case.now in
    let t = c.args.tight.now in
    on_raise a t _ _
    (subst (λ (p : Place). IsOnWalk a t p) (sym c.self.view_is) c.requires.on)
    (subst (λ (p : Place). p.looked ≡ length a.constraints) (sym c.self.view_is) c.requires.looked)
    (subst (λ (p : Place). p.stage < length a.constraints) (sym c.self.view_is) c.requires.stage)
    (subst (λ (p : Place). IsRaised a t p.stage p.at) (sym c.self.view_is) c.requires.raised)
    refl
