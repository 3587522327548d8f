use Rattle.std.proofs.Common.{ap, sym, ◌∙◌}
use Rattle.play.specs.Parts.{Part}
use Rattle.desk_part.proofs.CloseLaws.{best_point, optimal_is}
use Rattle.desk_part.proofs.desk_part.DeskPart.optimal.Goals as goal

pub optimal_cert-requires-clause-numbers : goal.optimal_cert-requires-clause-numbers
optimal_cert-requires-clause-numbers c = best_point c.args.case.now c.args.options.now c.args.self.now c.in-Some.best c.requires.carried (ap (λ (x : Part). x.best) (sym c.self.view_is) ∙ c.in-Some.is)

pub returns-clause-cert : goal.returns-clause-cert
returns-clause-cert c = optimal_is c.optimal_cert.result c.args.self.now c.in-Some.best c.in_ok-lines.lines (ap (λ (x : Part). x.best) (sym c.self.view_is) ∙ c.in-Some.is) c.in_ok-lines.ensures.lines c.optimal_cert.ensures.cert
