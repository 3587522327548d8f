use Rattle.std.proofs.Common.{◌++◌, [], ◌∷◌, ap, ◌∙◌}
use Rattle.lp_base.proofs.Machine.{narrow_again}
use Rattle.front_text.proofs.Walks.{coefficients_more, fits_narrow}
use Rattle.front_text.proofs.making.coefficients.Goals as goal

pub loop-i-preserved : goal.loop-i-preserved
loop-i-preserved c =
    coefficients_more c.args.terms.now c.args.first c.loop-i.i c.loop-i.made c.push.new.self c.coefficient_at.result c.loop-i.invariant c.coefficient_at.ensures.value
    (c.in_ok-push.ensures.ok ∙ ap (λ z. c.loop-i.made ++ z ∷ []) (narrow_again c.coefficient_at.result (fits_narrow c.coefficient_at.result c.coefficient_at.ensures.small)))
