use Rattle.std.proofs.Common.{rules, ◌∙◌, ◌^◌, ◌<◌, arith}
use Rattle.std.specs.Str.Parse.{starts_with_minus}
use Rattle.lp_nums.proofs.DecimalLaws.{scanned, wide_as_tested, room_of, spelled_of, refused_wide, not_refused}
use Rattle.lp_nums.proofs.decimals.read_decimal.Goals as goal

pub returns-then-is_past_limits-clause-refused : goal.returns-then-is_past_limits-clause-refused
returns-then-is_past_limits-clause-refused c =
    let s = c.of_text-digits.result in
    let wf : s.width < 2 ^ 64 = search rules in
    let zf : s.zeros < 2 ^ 64 = search rules in
    let k = scanned c.args.text.now c.mantissa_of.result.now s c.power_of-power.result c.is_past_limits.result c.mantissa_of.ensures c.of_text-digits.ensures c.if-digits-eq0.false c.power_of-power.ensures.value c.power_of-power.ensures.short zf wf c.power_of-power.ensures.near c.is_past_limits.ensures in
    refused_wide c.args.text.now c.is_decimal.result c.is_decimal.ensures c.if-not-is_decimal.false (wide_as_tested c.args.text.now s c.power_of-power.result c.is_past_limits.result k ∙ c.if-is_past_limits.true)

pub scaled-requires-clause-room : goal.scaled-requires-clause-room
scaled-requires-clause-room c =
    let s = c.of_text-digits.result in
    let wf : s.width < 2 ^ 64 = search rules in
    let zf : s.zeros < 2 ^ 64 = search rules in
    let k = scanned c.args.text.now c.mantissa_of.result.now s c.power_of-power.result c.is_past_limits.result c.mantissa_of.ensures c.of_text-digits.ensures c.if-digits-eq0.false c.power_of-power.ensures.value c.power_of-power.ensures.short zf wf c.power_of-power.ensures.near c.is_past_limits.ensures in
    let vf : s.value < 2 ^ 64 = search rules in
    let room = room_of c.args.text.now s c.power_of-power.result c.signed_value.result c.is_past_limits.result (starts_with_minus c.args.text.now) k c.if-is_past_limits.false vf c.signed_value.ensures in
    omega (arith, room.room)

pub returns-clause-refused : goal.returns-clause-refused
returns-clause-refused c =
    let s = c.of_text-digits.result in
    let wf : s.width < 2 ^ 64 = search rules in
    let zf : s.zeros < 2 ^ 64 = search rules in
    let k = scanned c.args.text.now c.mantissa_of.result.now s c.power_of-power.result c.is_past_limits.result c.mantissa_of.ensures c.of_text-digits.ensures c.if-digits-eq0.false c.power_of-power.ensures.value c.power_of-power.ensures.short zf wf c.power_of-power.ensures.near c.is_past_limits.ensures in
    not_refused c.args.text.now c.is_decimal.result c.is_decimal.ensures c.if-not-is_decimal.false (wide_as_tested c.args.text.now s c.power_of-power.result c.is_past_limits.result k ∙ c.if-is_past_limits.false)

pub returns-clause-value : goal.returns-clause-value
returns-clause-value c =
    let s = c.of_text-digits.result in
    let wf : s.width < 2 ^ 64 = search rules in
    let zf : s.zeros < 2 ^ 64 = search rules in
    let k = scanned c.args.text.now c.mantissa_of.result.now s c.power_of-power.result c.is_past_limits.result c.mantissa_of.ensures c.of_text-digits.ensures c.if-digits-eq0.false c.power_of-power.ensures.value c.power_of-power.ensures.short zf wf c.power_of-power.ensures.near c.is_past_limits.ensures in
    let vf : s.value < 2 ^ 64 = search rules in
    spelled_of c.args.text.now c.scaled.result s c.power_of-power.result c.signed_value.result c.is_past_limits.result k c.if-is_past_limits.false vf c.signed_value.ensures c.scaled.ensures.value

pub returns-clause-small : goal.returns-clause-small
returns-clause-small c =
    let s = c.of_text-digits.result in
    let wf : s.width < 2 ^ 64 = search rules in
    let zf : s.zeros < 2 ^ 64 = search rules in
    let k = scanned c.args.text.now c.mantissa_of.result.now s c.power_of-power.result c.is_past_limits.result c.mantissa_of.ensures c.of_text-digits.ensures c.if-digits-eq0.false c.power_of-power.ensures.value c.power_of-power.ensures.short zf wf c.power_of-power.ensures.near c.is_past_limits.ensures in
    let vf : s.value < 2 ^ 64 = search rules in
    let room = room_of c.args.text.now s c.power_of-power.result c.signed_value.result c.is_past_limits.result (starts_with_minus c.args.text.now) k c.if-is_past_limits.false vf c.signed_value.ensures in
    (omega (arith, room.num, c.scaled.ensures.num_bound), omega (arith, room.den, c.scaled.ensures.den_bound))
