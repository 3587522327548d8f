use Rattle.std.proofs.Common.{◌≡◌, refl}
use Rattle.lpcc_case.specs.declared.verdict.Verdict.TheVariants.{Unbounded}
use Rattle.tree_certs.specs.Certs.{direction_cert}
use Rattle.branching.proofs.Saying.{says_ok}
use Rattle.branching.proofs.endings.unbounded_text.Goals as goal

pub returns : goal.returns
returns c =
    says_ok (λ t. t.items) c.verdict_text.result c.args.case.now c.args.nodes c.args.brief (λ cert w. (cert ≡ direction_cert c.args.piece.now c.args.point.now c.args.ray.now) × (w ≡ Unbounded)) c.in_ok-cert.cert Unbounded
    (c.in_ok-cert.ensures.cert, refl) c.in_ok-cert.ensures.form c.in_ok-cert.ensures.accepted c.line_count-lines.ensures c.verdict_text.ensures
