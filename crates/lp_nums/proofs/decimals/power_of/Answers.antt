use Rattle.std.proofs.Common.{◌≡◌, ◌^◌, ◌∙◌, sym, ap, subst, arith, List, ℕ, true, length, pos, ◌+ℤ◌, ◌-ℤ◌}
use Rattle.std.specs.List.{list_all, after_first}
use Rattle.std.specs.Char.{is_ascii_digit}
use Rattle.std.specs.Str.Parse.{without_leading_sign, signed_digits_value}
use Rattle.lp_nums.specs.Decimals.{clamped, exponent, scale, is_point}
use Rattle.lp_nums.proofs.DecimalLaws.{exponent_digits, power_read}
use Rattle.lp_nums.proofs.decimals.power_of.Goals as goal

pub written_exponent-requires : goal.written_exponent-requires
written_exponent-requires c =
    let P : List ℕ → Type 0 = λ e. list_all is_ascii_digit (without_leading_sign e) ≡ true in
    subst P (sym c.exponent_of.ensures) (exponent_digits c.args.text.now c.requires)

pub overflow_add-result : goal.overflow_add-result
overflow_add-result c =
    let e = signed_digits_value 10 (exponent c.args.text.now) in
    let written = c.written_exponent.ensures ∙ ap (λ t. clamped (2 ^ 100) (signed_digits_value 10 t)) c.exponent_of.ensures in
    (power_read c.written_exponent.result e c.scale_of-scale.result c.args.zeros c.from.result written (omega arith) (omega arith) c.from.ensures).fits

pub returns-clause-value : goal.returns-clause-value
returns-clause-value c =
    let e = signed_digits_value 10 (exponent c.args.text.now) in
    let written = c.written_exponent.ensures ∙ ap (λ t. clamped (2 ^ 100) (signed_digits_value 10 t)) c.exponent_of.ensures in
    let behind : c.scale_of-scale.result ≡ scale c.args.text.now = c.scale_of-scale.ensures ∙ ap (λ t. length (after_first is_point t)) c.mantissa_of.ensures in
    (power_read c.written_exponent.result e c.scale_of-scale.result c.args.zeros c.from.result written (omega arith) (omega arith) c.from.ensures).value
    ∙ ap (λ s. (clamped (2 ^ 100) e -ℤ pos s) +ℤ pos c.args.zeros) behind

pub returns-clause-near : goal.returns-clause-near
returns-clause-near c =
    let e = signed_digits_value 10 (exponent c.args.text.now) in
    let written = c.written_exponent.ensures ∙ ap (λ t. clamped (2 ^ 100) (signed_digits_value 10 t)) c.exponent_of.ensures in
    (power_read c.written_exponent.result e c.scale_of-scale.result c.args.zeros c.from.result written (omega arith) (omega arith) c.from.ensures).near
