use Rattle.std.proofs.Common.{subst}
use Rattle.front_text.specs.Calls.{Finds}
use Rattle.front_text.specs.Steps.{lcp_at}
use Rattle.front_text.proofs.Clauses.{given_lcp, given_only_lcp}
use Rattle.front_text.proofs.lcp.read_lcp.Goals as goal

pub returns-clause-spelled : goal.returns-clause-spelled
returns-clause-spelled c = given_lcp c.parse.result c.args.text.now (subst (λ a. Finds (λ p. p) c.parse.result (lcp_at a)) c.of.ensures c.parse.ensures)

pub returns-clause-only : goal.returns-clause-only
returns-clause-only c = given_only_lcp c.parse.result c.args.text.now (subst (λ a. Finds (λ p. p) c.parse.result (lcp_at a)) c.of.ensures c.parse.ensures)
