use Rattle.std.proofs.Common.{sym, subst}
use Rattle.cert_text.specs.Steps.{Finds}
use Rattle.cert2_text.specs.Steps2.{cert2_at}
use Rattle.cert2_text.proofs.Clauses2.{one_spelled, one_only, one_fails, one_only_fails, two_spelled, two_only, two_fails, two_only_fails}
use Rattle.cert2_text.proofs.read2.read_any.Goals as goal

pub returns-then-not-is_two-clause-spelled : goal.returns-then-not-is_two-clause-spelled
returns-then-not-is_two-clause-spelled c = one_spelled c.args.text.now c.read_cert.result c.as_one.result c.as_one.ensures c.read_cert.ensures.spelled

pub returns-then-not-is_two-clause-only : goal.returns-then-not-is_two-clause-only
returns-then-not-is_two-clause-only c = one_only c.args.text.now c.read_cert.result c.as_one.result c.as_one.ensures (sym c.if-not-is_two.ensures) c.read_cert.ensures.only

pub returns-then-not-is_two-clause-fails : goal.returns-then-not-is_two-clause-fails
returns-then-not-is_two-clause-fails c = one_fails c.args.text.now c.read_cert.result c.as_one.result c.as_one.ensures (sym c.if-not-is_two.ensures) c.read_cert.ensures.fails

pub returns-then-not-is_two-clause-only_fails : goal.returns-then-not-is_two-clause-only_fails
returns-then-not-is_two-clause-only_fails c = one_only_fails c.args.text.now c.read_cert.result c.as_one.result c.as_one.ensures (sym c.if-not-is_two.ensures) c.read_cert.ensures.only_fails

pub returns-clause-spelled : goal.returns-clause-spelled
returns-clause-spelled c = two_spelled c.args.text.now c.parse_cert.result c.as_two.result c.as_two.ensures (sym c.if-not-is_two.ensures) (subst (λ a. Finds (λ cert. cert) c.parse_cert.result (cert2_at a)) c.of.ensures c.parse_cert.ensures)

pub returns-clause-only : goal.returns-clause-only
returns-clause-only c = two_only c.args.text.now c.parse_cert.result c.as_two.result c.as_two.ensures (sym c.if-not-is_two.ensures) (subst (λ a. Finds (λ cert. cert) c.parse_cert.result (cert2_at a)) c.of.ensures c.parse_cert.ensures)

pub returns-clause-fails : goal.returns-clause-fails
returns-clause-fails c = two_fails c.args.text.now c.parse_cert.result c.as_two.result c.as_two.ensures (sym c.if-not-is_two.ensures) (subst (λ a. Finds (λ cert. cert) c.parse_cert.result (cert2_at a)) c.of.ensures c.parse_cert.ensures)

pub returns-clause-only_fails : goal.returns-clause-only_fails
returns-clause-only_fails c = two_only_fails c.args.text.now c.parse_cert.result c.as_two.result c.as_two.ensures (sym c.if-not-is_two.ensures) (subst (λ a. Finds (λ cert. cert) c.parse_cert.result (cert2_at a)) c.of.ensures c.parse_cert.ensures)
