use Rattle.std.proofs.Common.{subst, sym}
use Rattle.std.specs.Prelude.{IfOk}
use Rattle.std.specs.Option.{option_copied}
use Rattle.cert_text.specs.declared.cert.Cert.TheVariants as cert
use Rattle.cert_parts.specs.Lines.{AreBacked}
use Rattle.tree_engine.specs.Bests.{IsBest, IsVerdictOf}
use Rattle.tree_certs.specs.Certs.{IsTreeCert}
use Rattle.tree_certs.proofs.CertLaws.{infeasible_tree_accepted, optimal_tree, optimal_tree_accepted}
use Rattle.tree_certs.proofs.certificates.tree_cert.Goals as goal

pub optimal_cert-requires-clause-numbers : goal.optimal_cert-requires-clause-numbers
optimal_cert-requires-clause-numbers c = (subst (λ b. IsBest c.args.case.now (option_copied b)) c.in-Some.is c.requires.best).of

pub returns-in-Some-clause-cert : goal.returns-in-Some-clause-cert
returns-in-Some-clause-cert c =
    subst (λ b. IfOk c.optimal_cert.result (IsTreeCert (option_copied b) c.args.tree.now)) (sym c.in-Some.is)
    (optimal_tree c.optimal_cert.result c.in-Some.point.now c.args.tree.now c.in_ok-lines.lines c.optimal_cert.ensures.cert c.in_ok-lines.ensures.lines)

pub returns-in-Some-clause-accepted : goal.returns-in-Some-clause-accepted
returns-in-Some-clause-accepted c = λ v says.
    let best = subst (λ b. IsBest c.args.case.now (option_copied b)) c.in-Some.is c.requires.best in
    let backed = subst (λ b. AreBacked c.args.case.now (option_copied b) c.in_ok-lines.lines) c.in-Some.is c.in_ok-lines.ensures.backed in
    optimal_tree_accepted c.optimal_cert.result c.args.case.now c.in-Some.point.now c.in_ok-lines.lines v best backed c.optimal_cert.ensures.cert
    (subst (λ b. IsVerdictOf c.args.case.now (option_copied b) v) c.in-Some.is says)

pub returns-in-None-clause-cert : goal.returns-in-None-clause-cert
returns-in-None-clause-cert c = subst (λ b. IsTreeCert (option_copied b) c.args.tree.now (cert.Infeasible c.in_ok-lines.lines)) (sym c.in-None.is) c.in_ok-lines.ensures.lines

pub returns-in-None-clause-accepted : goal.returns-in-None-clause-accepted
returns-in-None-clause-accepted c = λ v says.
    let backed = subst (λ b. AreBacked c.args.case.now (option_copied b) c.in_ok-lines.lines) c.in-None.is c.in_ok-lines.ensures.backed in
    infeasible_tree_accepted c.args.case.now c.in_ok-lines.lines v backed (subst (λ b. IsVerdictOf c.args.case.now (option_copied b) v) c.in-None.is says)
