use Rattle.std.specs.Option.{option_copied}
use Rattle.tree_engine.specs.Bests.{IsVerdictOf}
use Rattle.tree_certs.specs.Certs.{IsTreeCert}
use Rattle.branching.proofs.Saying.{says_ok}
use Rattle.branching.proofs.endings.closed_text.Goals as goal

pub returns : goal.returns
returns c =
    let best = option_copied c.args.best in
    let v = c.verdict_of-verdict.result in
    says_ok (λ t. t.items) c.verdict_text.result c.args.case.now c.args.nodes c.args.brief (λ cert w. IsTreeCert best c.args.tree.now cert × IsVerdictOf c.args.case.now best w) c.in_ok-cert.cert v
    (c.in_ok-cert.ensures.cert, c.verdict_of-verdict.ensures) c.in_ok-cert.ensures.form (c.in_ok-cert.ensures.accepted v c.verdict_of-verdict.ensures) c.line_count-lines.ensures c.verdict_text.ensures
