use Rattle.std.proofs.Common.{◌≡◌, ◌∙◌, ◌++◌, ◌∷◌, [], ap, ℤ, to_z, of_z}
use mir.Syntax.{w64}
use Rattle.lp_base.proofs.Machine.{narrow_again}
use Rattle.dict.specs.Forms.{nonzero}
use Rattle.basic_solutions.proofs.WeightSteps.{terms_more}
use Rattle.basic_solutions.proofs.duals.multipliers.Goals as goal

pub loop-k-preserved : goal.loop-k-preserved
loop-k-preserved c =
    let y = c.multiplier-y.result in
    let e : to_z w64 (of_z w64 y) ≡ y = narrow_again y c.multiplier-y.ensures.narrow in
    terms_more _ c.loop-k.k y c.loop-k.out.items c.put_multiplier.new.out.items (c.in_ok-put_multiplier.ensures ∙ ap (λ (z : ℤ). c.loop-k.out.items ++ nonzero ((c.loop-k.k, z) ∷ [])) e) c.multiplier-y.ensures.value c.multiplier-y.ensures.narrow c.loop-k.invariant
