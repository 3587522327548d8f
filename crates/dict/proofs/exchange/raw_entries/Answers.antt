use Rattle.std.proofs.Common.{ℤ, ◌≡◌, ◌∙◌, ap, refl, to_z, of_z}
use mir.Syntax.{w64}
use Rattle.dict.proofs.Machine.{read_again}
use Rattle.dict.proofs.Exchanges.{on_ok_map}
use Rattle.dict.proofs.exchange.raw_entries.Goals as goal

pub returns-clause-weighs : goal.returns-clause-weighs
returns-clause-weighs c =
    let ep : to_z w64 (of_z w64 c.denominator.result) ≡ c.args.entering.now.den = ap (λ (z : ℤ). to_z w64 (of_z w64 z)) c.denominator.ensures ∙ read_again c.args.entering.now.den c.requires.entering.den in
    let ea = read_again c.args.a c.requires.narrow in
    on_ok_map c.combine.result (λ weighs v. weighs v ∙ rw (ep, ea, c.entries.ensures, c.entries-2.ensures) refl) c.combine.ensures.weighs
