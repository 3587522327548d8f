use Rattle.std.proofs.Common.{◌<◌, ◌∙◌, sym, arith, length}
use Rattle.std.specs.Prelude.{slice_index_or}
use Rattle.std.proofs.lemmas.Bool.{both_ways}
use Rattle.basic_solutions.proofs.Machine.{number_again, negated_again}
use Rattle.basic_solutions.proofs.Shares.{share_own, share_at_place, share_of_none}
use Rattle.basic_solutions.proofs.places.share.Goals as goal

pub returns-then-stands_in-clause-value : goal.returns-then-stands_in-clause-value
returns-then-stands_in-clause-value c =
    number_again c.denominator.result _ c.denominator.ensures.narrow (c.denominator.ensures.value ∙ sym (share_own c.args.case.now c.args.dict.now c.args.row c.args.k c.requires.sized c.requires.row (c.stands_in.ensures.0 c.if-stands_in.true)))

pub returns-then-place-columns-clause-value : goal.returns-then-place-columns-clause-value
returns-then-place-columns-clause-value c =
    let a = c.args.case.now in
    let d = c.args.dict.now in
    let within : c.args.k < length c.args.places.now = omega (arith, c.requires.k, c.requires.places.size) in
    let inside : slice_index_or c.args.places.now c.args.k 0 < length d.nonbasic = omega (arith, c.if-place-columns.true, c.columns.ensures) in
    negated_again c.entry.result _ _ c.entry.ensures.narrow c.entry.ensures.value (share_at_place a d c.args.row c.args.k _ c.requires.sized c.requires.row inside (c.requires.places.found c.args.k within inside))

pub returns-clause-value : goal.returns-clause-value
returns-clause-value c =
    let a = c.args.case.now in
    let d = c.args.dict.now in
    let within : c.args.k < length c.args.places.now = omega (arith, c.requires.k, c.requires.places.size) in
    sym (share_of_none a d c.args.row c.args.k c.requires.sized c.requires.row (λ form. both_ways c.stands_in.result c.if-stands_in.false (c.stands_in.ensures.1 form)) (λ j lt. c.requires.places.none c.args.k j within (omega (arith, c.if-place-columns.false, c.columns.ensures)) lt))
