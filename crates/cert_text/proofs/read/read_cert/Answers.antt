use Rattle.std.proofs.Common.{subst}
use Rattle.cert_text.specs.Steps.{Finds, cert_at}
use Rattle.cert_text.proofs.Clauses.{given_spelled, given_only, given_fails, given_only_fails}
use Rattle.cert_text.proofs.read.read_cert.Goals as goal

pub returns-clause-spelled : goal.returns-clause-spelled
returns-clause-spelled c = given_spelled c.parse_cert.result c.args.text.now (subst (λ a. Finds (λ cert. cert) c.parse_cert.result (cert_at a)) c.of.ensures c.parse_cert.ensures)

pub returns-clause-only : goal.returns-clause-only
returns-clause-only c = given_only c.parse_cert.result c.args.text.now (subst (λ a. Finds (λ cert. cert) c.parse_cert.result (cert_at a)) c.of.ensures c.parse_cert.ensures)

pub returns-clause-fails : goal.returns-clause-fails
returns-clause-fails c = given_fails c.parse_cert.result c.args.text.now (subst (λ a. Finds (λ cert. cert) c.parse_cert.result (cert_at a)) c.of.ensures c.parse_cert.ensures)

pub returns-clause-only_fails : goal.returns-clause-only_fails
returns-clause-only_fails c = given_only_fails c.parse_cert.result c.args.text.now (subst (λ a. Finds (λ cert. cert) c.parse_cert.result (cert_at a)) c.of.ensures c.parse_cert.ensures)
