use Rattle.std.proofs.Common.{ap, sym, ◌∙◌}
use Rattle.play.specs.Parts.{Part}
use Rattle.desk_part.proofs.CloseLaws.{direction_at, unbounded_is}
use Rattle.desk_part.proofs.desk_part.DeskPart.unbounded.Goals as goal

pub unbounded_cert-requires-clause-kept : goal.unbounded_cert-requires-clause-kept
unbounded_cert-requires-clause-kept c = direction_at c.args.case.now c.args.options.now c.args.self.now c.in-Some.kept c.requires.carried (ap (λ (x : Part). x.unbounded) (sym c.self.view_is) ∙ c.in-Some.is)

pub returns-clause-cert : goal.returns-clause-cert
returns-clause-cert c = unbounded_is c.unbounded_cert.result c.args.self.now c.in-Some.kept (ap (λ (x : Part). x.unbounded) (sym c.self.view_is) ∙ c.in-Some.is) c.unbounded_cert.ensures.cert
