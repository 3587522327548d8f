use Rattle.std.proofs.Common.{subst}
use Rattle.front_text.specs.Calls.{Finds}
use Rattle.front_text.specs.Steps.{bilevel_at}
use Rattle.front_text.proofs.Clauses.{given_bilevel, given_only_bilevel}
use Rattle.front_text.proofs.bilevel.read_bilevel.Goals as goal

pub returns-clause-spelled : goal.returns-clause-spelled
returns-clause-spelled c = given_bilevel c.parse.result c.args.text.now (subst (λ a. Finds (λ p. p) c.parse.result (bilevel_at a)) c.of.ensures c.parse.ensures)

pub returns-clause-only : goal.returns-clause-only
returns-clause-only c = given_only_bilevel c.parse.result c.args.text.now (subst (λ a. Finds (λ p. p) c.parse.result (bilevel_at a)) c.of.ensures c.parse.ensures)
