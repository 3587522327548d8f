use Rattle.std.proofs.Common.{ℕ, ℤ, pos, List, ◌≡◌, ◌∙◌, ◌^◌, refl, sym, ap, subst, arith, to_z, of_z}
use mathlib.Core.Bool.{not}
use mir.Syntax.{w64}
use lib.Signed.{lt_z}
use Rattle.lpcc_case.specs.Points.{coefficient}
use Rattle.dict.specs.Equations.{Equation, IsRow, IsReduced}
use Rattle.dict.specs.Exchanges.{Enters, turn, entered}
use Rattle.dict.proofs.Machine.{read_again}
use Rattle.dict.proofs.SparseSums.{coefficient_small}
use Rattle.dict.proofs.Enters.{entering_row, sign_is, enters, entered_row, entered_reduced}
use Rattle.dict.proofs.exchange.enter.Goals as goal

pub returns-clause-enters : goal.returns-clause-enters
returns-clause-enters c =
    let ep : to_z w64 (of_z w64 c.number_in-p.result) ≡ coefficient c.args.row.now.entries c.args.e = read_again c.number_in-p.result c.number_in-p.ensures.narrow ∙ c.number_in-p.ensures.value ∙ ap (λ (ts : List (ℕ × ℤ)). coefficient ts c.args.e) c.entries.ensures in
    let flip = lt_z (pos 0) (to_z w64 (of_z w64 c.number_in-p.result)) in
    let ed : to_z w64 (of_z w64 c.turned-den.result) ≡ turn (not flip) (coefficient c.args.row.now.entries c.args.e) = read_again c.turned-den.result c.turned-den.ensures.narrow ∙ c.turned-den.ensures.value ∙ ap (λ (z : ℤ). turn (not flip) z) ep in
    let ek : to_z w64 (of_z w64 c.constant.result) ≡ c.args.row.now.constant = ap (λ (z : ℤ). to_z w64 (of_z w64 z)) c.constant.ensures ∙ read_again c.args.row.now.constant c.requires.row.constant in
    let ec : to_z w64 (of_z w64 c.turned-constant.result) ≡ turn flip c.args.row.now.constant = read_again c.turned-constant.result c.turned-constant.ensures.narrow ∙ c.turned-constant.ensures.value ∙ ap (λ (z : ℤ). turn flip z) ek in
    let er : to_z w64 (of_z w64 c.denominator.result) ≡ c.args.row.now.den = ap (λ (z : ℤ). to_z w64 (of_z w64 z)) c.denominator.ensures ∙ read_again c.args.row.now.den c.requires.row.den in
    let et : c.in_ok-entries.entries.items ≡ entered flip c.args.e c.args.row.now.den c.args.row.now.entries = c.in_ok-entries.ensures ∙ ap (λ (z : ℤ). entered flip c.args.e z c.entries-2.result.now) er ∙ ap (λ (ts : List (ℕ × ℤ)). entered flip c.args.e c.args.row.now.den ts) c.entries-2.ensures in
    let made : c.of.result ≡ entering_row flip c.args.e c.args.row.now = c.of.ensures ∙ rw (ed, ec, et) refl in
    subst (λ (q : Equation). Enters c.args.e c.args.row.now q) (sym made) (enters (2 ^ 63) c.args.places flip c.args.e c.args.row.now c.requires.row.entries c.requires.entry)

pub returns-clause-row : goal.returns-clause-row
returns-clause-row c =
    let ep : to_z w64 (of_z w64 c.number_in-p.result) ≡ coefficient c.args.row.now.entries c.args.e = read_again c.number_in-p.result c.number_in-p.ensures.narrow ∙ c.number_in-p.ensures.value ∙ ap (λ (ts : List (ℕ × ℤ)). coefficient ts c.args.e) c.entries.ensures in
    let flip = lt_z (pos 0) (to_z w64 (of_z w64 c.number_in-p.result)) in
    let ed : to_z w64 (of_z w64 c.turned-den.result) ≡ turn (not flip) (coefficient c.args.row.now.entries c.args.e) = read_again c.turned-den.result c.turned-den.ensures.narrow ∙ c.turned-den.ensures.value ∙ ap (λ (z : ℤ). turn (not flip) z) ep in
    let ek : to_z w64 (of_z w64 c.constant.result) ≡ c.args.row.now.constant = ap (λ (z : ℤ). to_z w64 (of_z w64 z)) c.constant.ensures ∙ read_again c.args.row.now.constant c.requires.row.constant in
    let ec : to_z w64 (of_z w64 c.turned-constant.result) ≡ turn flip c.args.row.now.constant = read_again c.turned-constant.result c.turned-constant.ensures.narrow ∙ c.turned-constant.ensures.value ∙ ap (λ (z : ℤ). turn flip z) ek in
    let er : to_z w64 (of_z w64 c.denominator.result) ≡ c.args.row.now.den = ap (λ (z : ℤ). to_z w64 (of_z w64 z)) c.denominator.ensures ∙ read_again c.args.row.now.den c.requires.row.den in
    let et : c.in_ok-entries.entries.items ≡ entered flip c.args.e c.args.row.now.den c.args.row.now.entries = c.in_ok-entries.ensures ∙ ap (λ (z : ℤ). entered flip c.args.e z c.entries-2.result.now) er ∙ ap (λ (ts : List (ℕ × ℤ)). entered flip c.args.e c.args.row.now.den ts) c.entries-2.ensures in
    let made : c.of.result ≡ entering_row flip c.args.e c.args.row.now = c.of.ensures ∙ rw (ed, ec, et) refl in
    subst (λ (q : Equation). IsRow (2 ^ 63) c.args.places q) (sym made)
    (entered_row (2 ^ 63) c.args.places flip c.args.e c.args.row.now c.requires.row (coefficient_small (2 ^ 63) 0 c.args.places c.args.row.now.entries c.args.e (omega arith) c.requires.row.entries) (sign_is flip (coefficient c.args.row.now.entries c.args.e) (ap (λ (z : ℤ). lt_z (pos 0) z) (sym ep)) c.requires.entry))

pub returns-clause-reduced : goal.returns-clause-reduced
returns-clause-reduced c =
    let ep : to_z w64 (of_z w64 c.number_in-p.result) ≡ coefficient c.args.row.now.entries c.args.e = read_again c.number_in-p.result c.number_in-p.ensures.narrow ∙ c.number_in-p.ensures.value ∙ ap (λ (ts : List (ℕ × ℤ)). coefficient ts c.args.e) c.entries.ensures in
    let flip = lt_z (pos 0) (to_z w64 (of_z w64 c.number_in-p.result)) in
    let ed : to_z w64 (of_z w64 c.turned-den.result) ≡ turn (not flip) (coefficient c.args.row.now.entries c.args.e) = read_again c.turned-den.result c.turned-den.ensures.narrow ∙ c.turned-den.ensures.value ∙ ap (λ (z : ℤ). turn (not flip) z) ep in
    let ek : to_z w64 (of_z w64 c.constant.result) ≡ c.args.row.now.constant = ap (λ (z : ℤ). to_z w64 (of_z w64 z)) c.constant.ensures ∙ read_again c.args.row.now.constant c.requires.row.constant in
    let ec : to_z w64 (of_z w64 c.turned-constant.result) ≡ turn flip c.args.row.now.constant = read_again c.turned-constant.result c.turned-constant.ensures.narrow ∙ c.turned-constant.ensures.value ∙ ap (λ (z : ℤ). turn flip z) ek in
    let er : to_z w64 (of_z w64 c.denominator.result) ≡ c.args.row.now.den = ap (λ (z : ℤ). to_z w64 (of_z w64 z)) c.denominator.ensures ∙ read_again c.args.row.now.den c.requires.row.den in
    let et : c.in_ok-entries.entries.items ≡ entered flip c.args.e c.args.row.now.den c.args.row.now.entries = c.in_ok-entries.ensures ∙ ap (λ (z : ℤ). entered flip c.args.e z c.entries-2.result.now) er ∙ ap (λ (ts : List (ℕ × ℤ)). entered flip c.args.e c.args.row.now.den ts) c.entries-2.ensures in
    let made : c.of.result ≡ entering_row flip c.args.e c.args.row.now = c.of.ensures ∙ rw (ed, ec, et) refl in
    subst (λ (q : Equation). IsReduced q) (sym made) (entered_reduced (2 ^ 63) c.args.places flip c.args.e c.args.row.now c.requires.row.entries c.requires.entry c.requires.reduced)
