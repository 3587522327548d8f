use Rattle.std.proofs.Common.{ℤ, ◌≡◌, ◌∙◌, ap, sym, subst, refl, arith, to_z, of_z, pos, ◌<ℤ◌}
use mir.Syntax.{w64}
use Rattle.lp_base.proofs.Machine.{again}
use Rattle.dict.proofs.Machine.{read_again}
use Rattle.dict.proofs.Exchanges.{positive}
use Rattle.dict.proofs.exchange.raw_denominator.Goals as goal

pub returns-clause-value : goal.returns-clause-value
returns-clause-value c =
    let ep : to_z w64 (of_z w64 c.denominator.result) ≡ c.args.entering.now.den = ap (λ (z : ℤ). to_z w64 (of_z w64 z)) c.denominator.ensures ∙ read_again c.args.entering.now.den c.requires.entering.den in
    let ed : to_z w64 (of_z w64 c.denominator-2.result) ≡ c.args.row.now.den = ap (λ (z : ℤ). to_z w64 (of_z w64 z)) c.denominator-2.ensures ∙ read_again c.args.row.now.den c.requires.row.den in
    again c.narrow_product.result (omega (arith, c.narrow_product.ensures.small)) ∙ c.narrow_product.ensures.value ∙ rw (ep, ed) refl

pub returns-clause-positive : goal.returns-clause-positive
returns-clause-positive c =
    subst (λ (z : ℤ). pos 0 <ℤ z) (sym (returns-clause-value c)) (positive c.args.entering.now.den c.args.row.now.den c.requires.entering.positive c.requires.row.positive)
