use Rattle.std.proofs.Common.{◌+◌, ◌∙◌, ap, refl, sym, [], ◌∷◌, ◌++◌, map, drop, take, pos, None, Some, ◌≤ℤ◌}
use Rattle.std.specs.Option.{option_to_list}
use Rattle.std.proofs.lemmas.List.{append-nil}
use Rattle.std.proofs.lemmas.List.Elements.{All-nil}
use Rattle.lp_nums.specs.Fractions.{Fraction}
use Rattle.deck_case.specs.CaseParts.{numbers_of}
use Rattle.deck_case.specs.Multipliers.{ArePositive, multiplier}
use Rattle.deck_case.proofs.MultiplierSteps.{numbers-split, part_positive, part_some, none_part, split_first, split_range, range_den, item_number, step_is, taken_positive}
use Rattle.deck_case.proofs.numbers.multiplier.Goals as goal

none_positive : ArePositive []
none_positive = All-nil (λ (f : Fraction). pos 1 ≤ℤ f.den)

first_positive : (c : goal.In_ok-known) → ArePositive (c.args.rhs ∷ [])
first_positive c =
    let es = c.args.entries.now in
    part_positive (numbers_of c.args.rhs c.args.range es) (c.args.rhs ∷ []) (option_to_list c.args.range ++ map (λ e. e.value) es) c.requires (split_first c.args.rhs c.args.range es)

pub returns-in_err-known : goal.returns-in_err-known
returns-in_err-known c =
    let es = c.args.entries.now in
    none_part (numbers_of c.args.rhs c.args.range es) (c.args.rhs ∷ []) (option_to_list c.args.range ++ map (λ e. e.value) es) c.from_residual.result c.requires (split_first c.args.rhs c.args.range es) (c.in_err-known.ensures [] none_positive refl) c.from_residual.ensures

pub with_range-requires-clause-positive : goal.with_range-requires-clause-positive
with_range-requires-clause-positive c =
    let es = c.args.entries.now in
    part_some (numbers_of c.args.rhs c.args.range es) (c.args.rhs ∷ []) (option_to_list c.args.range ++ map (λ e. e.value) es) c.requires (split_first c.args.rhs c.args.range es) c.in_ok-known.known (c.in_ok-known.ensures [] none_positive refl).0

pub with_range-requires-clause-narrow : goal.with_range-requires-clause-narrow
with_range-requires-clause-narrow c = (c.in_ok-known.ensures [] none_positive refl).1

pub with_range-requires-clause-den : goal.with_range-requires-clause-den
with_range-requires-clause-den c = range_den c.args.rhs c.args.range c.args.entries.now c.requires

pub returns-in_err-known-2 : goal.returns-in_err-known-2
returns-in_err-known-2 c =
    let es = c.args.entries.now in
    let all = numbers_of c.args.rhs c.args.range es in
    let known = (c.in_ok-known.ensures [] none_positive refl).0 in
    let positive = part_positive all (c.args.rhs ∷ []) (option_to_list c.args.range ++ map (λ e. e.value) es) c.requires (split_first c.args.rhs c.args.range es) in
    none_part all ((c.args.rhs ∷ []) ++ option_to_list c.args.range) (map (λ e. e.value) es) c.from_residual-in_err-known-2.result c.requires (split_range c.args.rhs c.args.range es) (c.in_err-known-2.ensures (c.args.rhs ∷ []) positive known) c.from_residual-in_err-known-2.ensures

pub loop-entry-init : goal.loop-entry-init
loop-entry-init c =
    let es = c.args.entries.now in
    let all = numbers_of c.args.rhs c.args.range es in
    let known = (c.in_ok-known.ensures [] none_positive refl).0 in
    let positive = part_positive all (c.args.rhs ∷ []) (option_to_list c.args.range ++ map (λ e. e.value) es) c.requires (split_first c.args.rhs c.args.range es) in
    let made = c.in_ok-known-2.ensures (c.args.rhs ∷ []) positive known in
    record { so_far = made.0 ∙ ap multiplier (sym (ap (λ l. c.args.rhs ∷ l) (append-nil (option_to_list c.args.range)))); narrow = made.1 }

pub with_number-requires-in-loop-entry-clause-positive :
    goal.with_number-requires-in-loop-entry-clause-positive
with_number-requires-in-loop-entry-clause-positive c =
    let es = c.args.entries.now in
    let i = c.loop-entry.entry-index in
    part_some (numbers_of c.args.rhs c.args.range es) (numbers_of c.args.rhs c.args.range (take i es)) (map (λ e. e.value) (drop i es)) c.requires (numbers-split c.args.rhs c.args.range es i) c.loop-entry.known c.loop-entry.invariant.so_far

pub with_number-requires-in-loop-entry-clause-den :
    goal.with_number-requires-in-loop-entry-clause-den
with_number-requires-in-loop-entry-clause-den c =
    (item_number c.args.rhs c.args.range c.args.entries.now c.loop-entry.entry-index c.entry-item.result _ c.loop-entry-test.true c.requires c.entry-item.is).den

pub returns-in_err-known-3 : goal.returns-in_err-known-3
returns-in_err-known-3 c =
    let es = c.args.entries.now in
    let i = c.loop-entry.entry-index in
    let positive = taken_positive c.args.rhs c.args.range es i c.requires in
    let wide = step_is c.args.rhs c.args.range es i c.entry-item.result _ None c.loop-entry-test.true c.entry-item.is (c.in_err-known-3.ensures (numbers_of c.args.rhs c.args.range (take i es)) positive c.loop-entry.invariant.so_far) in
    none_part (numbers_of c.args.rhs c.args.range es) (numbers_of c.args.rhs c.args.range (take (i + 1) es)) (map (λ e. e.value) (drop (i + 1) es)) c.from_residual-in_err-known-3.result c.requires (numbers-split c.args.rhs c.args.range es (i + 1)) wide c.from_residual-in_err-known-3.ensures

pub loop-entry-preserved : goal.loop-entry-preserved
loop-entry-preserved c =
    let es = c.args.entries.now in
    let i = c.loop-entry.entry-index in
    let positive = taken_positive c.args.rhs c.args.range es i c.requires in
    let made = step_is c.args.rhs c.args.range es i c.entry-item.result _ (Some c.in_ok-known-3.known) c.loop-entry-test.true c.entry-item.is (c.in_ok-known-3.ensures (numbers_of c.args.rhs c.args.range (take i es)) positive c.loop-entry.invariant.so_far) in
    record { so_far = made.0; narrow = made.1 }
