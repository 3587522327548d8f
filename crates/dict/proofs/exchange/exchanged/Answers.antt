use Rattle.std.proofs.Common.{ℕ, ℤ, ◌≡◌, ◌∙◌, ◌+ℤ◌, ◌*ℤ◌, refl, sym, ap, subst, to_z, of_z}
use mir.Syntax.{w64, w128}
use Rattle.lp_base.proofs.Machine.{again}
use Rattle.lpcc_case.specs.Points.{coefficient}
use Rattle.dict.specs.Terms.{weigh, without}
use Rattle.dict.specs.Equations.{Equation, equation}
use Rattle.dict.specs.Exchanges.{Carries}
use Rattle.dict.proofs.Machine.{read_again}
use Rattle.dict.proofs.Exchanges.{carried, next_of, wide_of, ok_map, ok_join, err_map}
use Rattle.dict.proofs.exchange.exchanged.Goals as goal

pub returns-clause-next : goal.returns-clause-next
returns-clause-next c =
    let ea : to_z w64 (of_z w64 c.args.a) ≡ coefficient c.args.row.now.entries c.args.e = read_again c.args.a c.requires.narrow ∙ c.requires.entry in
    let den : to_z w128 (of_z w128 c.raw_denominator-den.result) ≡ c.args.entering.now.den *ℤ c.args.row.now.den = again c.raw_denominator-den.result c.raw_denominator-den.ensures.small ∙ c.raw_denominator-den.ensures.value in
    let constant : to_z w128 (of_z w128 c.raw_constant-constant.result) ≡ (c.args.entering.now.den *ℤ c.args.row.now.constant) +ℤ (coefficient c.args.row.now.entries c.args.e *ℤ c.args.entering.now.constant) = again c.raw_constant-constant.result c.raw_constant-constant.ensures.small ∙ c.raw_constant-constant.ensures.value ∙ ap (λ (z : ℤ). (c.args.entering.now.den *ℤ c.args.row.now.constant) +ℤ (z *ℤ c.args.entering.now.constant)) ea in
    let weighs : (v : ℕ → ℤ) → weigh c.raw_entries.new.out.items v ≡ (c.args.entering.now.den *ℤ weigh c.args.row.now.entries (without c.args.e v)) +ℤ (coefficient c.args.row.now.entries c.args.e *ℤ weigh c.args.entering.now.entries v) = λ v. c.in_ok-raw_entries.ensures.weighs v ∙ ap (λ (z : ℤ). (c.args.entering.now.den *ℤ weigh c.args.row.now.entries (without c.args.e v)) +ℤ (z *ℤ weigh c.args.entering.now.entries v)) ea in
    let raw : equation (to_z w128 (of_z w128 c.raw_denominator-den.result)) (to_z w128 (of_z w128 c.raw_constant-constant.result)) c.deref.result.now ≡ equation (c.args.entering.now.den *ℤ c.args.row.now.den) ((c.args.entering.now.den *ℤ c.args.row.now.constant) +ℤ (coefficient c.args.row.now.entries c.args.e *ℤ c.args.entering.now.constant)) c.raw_entries.new.out.items = rw (den, constant, c.deref.ensures.value) refl in
    let carry : Carries c.args.e c.args.row.now c.args.entering.now (equation (to_z w128 (of_z w128 c.raw_denominator-den.result)) (to_z w128 (of_z w128 c.raw_constant-constant.result)) c.deref.result.now) = subst (λ (q : Equation). Carries c.args.e c.args.row.now c.args.entering.now q) (sym raw) (carried c.args.e c.args.row.now c.args.entering.now c.raw_entries.new.out.items weighs) in
    ok_join c.reduce.result (λ made. ok_join made (λ fresh of is. next_of c.args.places c.args.e c.args.row.now c.args.entering.now _ fresh carry is of)) c.reduce.ensures.reduced c.reduce.ensures.narrow

pub returns-clause-wide : goal.returns-clause-wide
returns-clause-wide c =
    let ea : to_z w64 (of_z w64 c.args.a) ≡ coefficient c.args.row.now.entries c.args.e = read_again c.args.a c.requires.narrow ∙ c.requires.entry in
    let den : to_z w128 (of_z w128 c.raw_denominator-den.result) ≡ c.args.entering.now.den *ℤ c.args.row.now.den = again c.raw_denominator-den.result c.raw_denominator-den.ensures.small ∙ c.raw_denominator-den.ensures.value in
    let constant : to_z w128 (of_z w128 c.raw_constant-constant.result) ≡ (c.args.entering.now.den *ℤ c.args.row.now.constant) +ℤ (coefficient c.args.row.now.entries c.args.e *ℤ c.args.entering.now.constant) = again c.raw_constant-constant.result c.raw_constant-constant.ensures.small ∙ c.raw_constant-constant.ensures.value ∙ ap (λ (z : ℤ). (c.args.entering.now.den *ℤ c.args.row.now.constant) +ℤ (z *ℤ c.args.entering.now.constant)) ea in
    let weighs : (v : ℕ → ℤ) → weigh c.raw_entries.new.out.items v ≡ (c.args.entering.now.den *ℤ weigh c.args.row.now.entries (without c.args.e v)) +ℤ (coefficient c.args.row.now.entries c.args.e *ℤ weigh c.args.entering.now.entries v) = λ v. c.in_ok-raw_entries.ensures.weighs v ∙ ap (λ (z : ℤ). (c.args.entering.now.den *ℤ weigh c.args.row.now.entries (without c.args.e v)) +ℤ (z *ℤ weigh c.args.entering.now.entries v)) ea in
    let raw : equation (to_z w128 (of_z w128 c.raw_denominator-den.result)) (to_z w128 (of_z w128 c.raw_constant-constant.result)) c.deref.result.now ≡ equation (c.args.entering.now.den *ℤ c.args.row.now.den) ((c.args.entering.now.den *ℤ c.args.row.now.constant) +ℤ (coefficient c.args.row.now.entries c.args.e *ℤ c.args.entering.now.constant)) c.raw_entries.new.out.items = rw (den, constant, c.deref.ensures.value) refl in
    let carry : Carries c.args.e c.args.row.now c.args.entering.now (equation (to_z w128 (of_z w128 c.raw_denominator-den.result)) (to_z w128 (of_z w128 c.raw_constant-constant.result)) c.deref.result.now) = subst (λ (q : Equation). Carries c.args.e c.args.row.now c.args.entering.now q) (sym raw) (carried c.args.e c.args.row.now c.args.entering.now c.raw_entries.new.out.items weighs) in
    ok_map c.reduce.result (λ made. err_map made (λ at wide. wide_of c.args.places c.args.e at c.args.row.now c.args.entering.now _ carry wide)) c.reduce.ensures.wide
