use Rattle.std.proofs.Common.{◌∙◌, ap, leb, arith}
use Rattle.std.specs.Prelude.{count_by}
use Rattle.std.proofs.lemmas.Int.{clamps}
use Rattle.front_text.proofs.Walks.{followers_step}
use Rattle.front_text.proofs.limits.number_of_followers.Goals as goal

pub loop-line-preserved : goal.loop-line-preserved
loop-line-preserved c = (
  followers_step c.args.nx c.args.lines.now c.loop-line.number c.loop-line.line-index c.followers_in.result c.sum-number.result _ c.line-item.result c.loop-line-test.true
      (c.followers_in.ensures ∙ ap (count_by (λ t. leb c.args.nx t.0)) (c.as_slice.ensures ∙ ap (λ x. x.1) c.line-item.is)) c.sum-number.ensures c.loop-line.invariant.0,
  omega (arith, clamps, c.sum-number.ensures),
)
