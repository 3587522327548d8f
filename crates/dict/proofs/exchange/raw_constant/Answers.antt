use Rattle.std.proofs.Common.{ℤ, ◌≡◌, ◌∙◌, ap, refl, to_z, of_z}
use mir.Syntax.{w64}
use Rattle.lp_base.proofs.Machine.{again}
use Rattle.dict.proofs.Machine.{read_again}
use Rattle.dict.proofs.exchange.raw_constant.Goals as goal

pub returns-clause-value : goal.returns-clause-value
returns-clause-value c =
    let ep : to_z w64 (of_z w64 c.denominator.result) ≡ c.args.entering.now.den = ap (λ (z : ℤ). to_z w64 (of_z w64 z)) c.denominator.ensures ∙ read_again c.args.entering.now.den c.requires.entering.den in
    let ec : to_z w64 (of_z w64 c.constant.result) ≡ c.args.row.now.constant = ap (λ (z : ℤ). to_z w64 (of_z w64 z)) c.constant.ensures ∙ read_again c.args.row.now.constant c.requires.row.constant in
    let ek : to_z w64 (of_z w64 c.constant-2.result) ≡ c.args.entering.now.constant = ap (λ (z : ℤ). to_z w64 (of_z w64 z)) c.constant-2.ensures ∙ read_again c.args.entering.now.constant c.requires.entering.constant in
    let ea = read_again c.args.a c.requires.narrow in
    again c.mixed.result c.mixed.ensures.small ∙ c.mixed.ensures.value ∙ rw (ep, ec, ea, ek) refl
