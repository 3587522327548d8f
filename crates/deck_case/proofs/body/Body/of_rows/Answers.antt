use Rattle.std.proofs.Common.{◌<◌, ◌∙◌, ap, arith, subst, sym, pos, All, length}
use Rattle.std.specs.Prelude.{IsTrue}
use Rattle.std.specs.List.{enumerate_from}
use Rattle.lp_base.specs.Ascending.{ascends_by}
use Rattle.decks.specs.declared.deck.Entry.{Entry}
use Rattle.decks.specs.Decks.{IsDeckNumber, entries_of, entry_column}
use Rattle.deck_case.specs.CaseParts.{cost_of, numbers_of, offset_of, scale_of}
use Rattle.deck_case.specs.DeckCases.{before_row}
use Rattle.deck_case.specs.DeckPoints.{row_at}
use Rattle.deck_case.specs.Steps.{IsFirstOf}
use Rattle.deck_case.specs.Wide.{wide_rows}
use Rattle.deck_case.proofs.BodySteps.{letter_of_objective, lines_done, lines_first, lines_more, objective_step, row_there, rows_done, rows_more, target_same}
use Rattle.deck_case.proofs.Numbered.{numbers_pushed}
use Rattle.deck_case.proofs.RowSteps.{passed_on}
use Rattle.deck_case.proofs.TermFacts.{entries_named, list_length, list_read, row_numbers}
use Rattle.std.proofs.lemmas.Option.{slice_get_within}
use Rattle.deck_case.proofs.body.Body.of_rows.Goals as goal

pub bounds-entries-number : goal.bounds-entries-number
bounds-entries-number c =
    omega (arith, c.loop-number-test.true, ap length c.as_slice-row-items.ensures, list_length c.args.deck.now c.args.entries.now c.requires.entries)

pub add-requires-clause-numbers : goal.add-requires-clause-numbers
add-requires-clause-numbers c =
    let d = c.args.deck.now in
    let k = c.loop-number.number in
    let r = c.row-item.result in
    let within : k < length d.rows = omega (arith, c.loop-number-test.true, ap length c.as_slice-row-items.ensures) in
    let listed = c.as_slice.ensures ∙ list_read d c.args.entries.now k c.index-entries-number.result c.requires.entries within c.index-entries-number.is in
    let there = row_there d c.as_slice-row-items.result.now k r r c.as_slice-row-items.ensures c.loop-number-test.true c.row-item.is in
    subst (λ es. All IsDeckNumber (numbers_of r.rhs r.range es)) (sym listed) (row_numbers d k r c.requires.deck there)

pub add-requires-clause-ascending : goal.add-requires-clause-ascending
add-requires-clause-ascending c =
    let d = c.args.deck.now in
    let k = c.loop-number.number in
    let within : k < length d.rows = omega (arith, c.loop-number-test.true, ap length c.as_slice-row-items.ensures) in
    let listed = c.as_slice.ensures ∙ list_read d c.args.entries.now k c.index-entries-number.result c.requires.entries within c.index-entries-number.is in
    subst (λ es. IsTrue (ascends_by entry_column es)) (sym listed) (c.requires.deck.ascending k)

pub add-requires-clause-named : goal.add-requires-clause-named
add-requires-clause-named c =
    let d = c.args.deck.now in
    let k = c.loop-number.number in
    let within : k < length d.rows = omega (arith, c.loop-number-test.true, ap length c.as_slice-row-items.ensures) in
    let listed = c.as_slice.ensures ∙ list_read d c.args.entries.now k c.index-entries-number.result c.requires.entries within c.index-entries-number.is in
    subst (λ n. All (λ (e : Entry). e.column < n) c.as_slice.result.now) (sym c.len-columns.ensures)
    (subst (All (λ (e : Entry). e.column < length d.columns)) (sym listed) (entries_named d k c.requires.deck))

pub returns-in_err-add-clause-err : goal.returns-in_err-add-clause-err
returns-in_err-add-clause-err c =
    let d = c.args.deck.now in
    let k = c.loop-number.number in
    let r = c.row-item.result in
    let fault = c.in_err-add.field-0.0 in
    let within : k < length d.rows = omega (arith, c.loop-number-test.true, ap length c.as_slice-row-items.ensures) in
    let listed = c.as_slice.ensures ∙ list_read d c.args.entries.now k c.index-entries-number.result c.requires.entries within c.index-entries-number.is in
    passed_on c.from_residual.result fault (IsFirstOf (wide_rows d.entries (enumerate_from 0 d.rows))) c.from_residual.ensures.1
    (lines_first d c.as_slice-row-items.result.now k r r c.as_slice.result.now fault c.as_slice-row-items.ensures c.loop-number-test.true c.row-item.is listed c.loop-number.invariant.narrow c.in_err-add.ensures.err)

pub loop-number-preserved : goal.loop-number-preserved
loop-number-preserved c =
    let d = c.args.deck.now in
    let rows = c.as_slice-row-items.result.now in
    let same = c.as_slice-row-items.ensures in
    let k = c.loop-number.number in
    let r = c.row-item.result in
    let es = c.as_slice.result.now in
    let n = c.len-columns.result in
    let old = c.loop-number.made in
    let new = c.add.new.self in
    let inv = c.loop-number.invariant in
    let added = c.in_ok-add.ensures in
    let within : k < length d.rows = omega (arith, c.loop-number-test.true, ap length same) in
    let listed = c.as_slice.ensures ∙ list_read d c.args.entries.now k c.index-entries-number.result c.requires.entries within c.index-entries-number.is in
    let there = row_there d rows k r r same c.loop-number-test.true c.row-item.is in
    let here = letter_of_objective d k r c.requires.deck there in
    let other = c.requires.deck.others k r there in
    let oes = entries_of d.entries d.objective in
    let row = row_at d d.objective in
    record {
      done = rows_more d rows k r r es old.constraints.items new.constraints.items same c.loop-number-test.true c.row-item.is listed inv.done added.constraints;
      firsts = numbers_pushed (before_row d) k old.firsts.items new.firsts.items (length old.constraints.items) inv.firsts (ap length inv.done) added.firsts;
      cost = objective_step (cost_of (length d.columns) oes row) (cost_of n es r) old.objective.cost new.objective.cost k d.objective r.letter here other inv.cost (λ e. ap (λ o. o.cost) (added.other e)) added.cost (target_same cost_of d n k r es c.len-columns.ensures listed there);
      scale = objective_step (pos (scale_of oes row)) (pos (scale_of es r)) old.objective.scale new.objective.scale k d.objective r.letter here other inv.scale (λ e. ap (λ o. o.scale) (added.other e)) added.scale (target_same (λ _ l x. pos (scale_of l x)) d n k r es c.len-columns.ensures listed there);
      offset = objective_step (offset_of oes row) (offset_of es r) old.objective.offset new.objective.offset k d.objective r.letter here other inv.offset (λ e. ap (λ o. o.offset) (added.other e)) added.offset (target_same (λ _ l x. offset_of l x) d n k r es c.len-columns.ensures listed there);
      narrow = lines_more d rows k r r es same c.loop-number-test.true c.row-item.is listed inv.narrow added.narrow;
    }

pub returns-clause-constraints : goal.returns-clause-constraints
returns-clause-constraints c = rows_done c.args.deck.now c.as_slice-row-items.result.now c.loop-number.number c.loop-number.made.constraints.items c.as_slice-row-items.ensures c.loop-number-test.false c.loop-number.invariant.done

pub returns-clause-cost : goal.returns-clause-cost
returns-clause-cost c =
    let d = c.args.deck.now in
    let o = c.requires.deck.objective in
    c.loop-number.invariant.cost (omega (arith, slice_get_within d.rows d.objective o.0 o.1, c.loop-number-test.false, ap length c.as_slice-row-items.ensures))

pub returns-clause-scale : goal.returns-clause-scale
returns-clause-scale c =
    let d = c.args.deck.now in
    let o = c.requires.deck.objective in
    c.loop-number.invariant.scale (omega (arith, slice_get_within d.rows d.objective o.0 o.1, c.loop-number-test.false, ap length c.as_slice-row-items.ensures))

pub returns-clause-offset : goal.returns-clause-offset
returns-clause-offset c =
    let d = c.args.deck.now in
    let o = c.requires.deck.objective in
    c.loop-number.invariant.offset (omega (arith, slice_get_within d.rows d.objective o.0 o.1, c.loop-number-test.false, ap length c.as_slice-row-items.ensures))

pub returns-clause-narrow : goal.returns-clause-narrow
returns-clause-narrow c = lines_done c.args.deck.now c.as_slice-row-items.result.now c.loop-number.number c.as_slice-row-items.ensures c.loop-number-test.false c.loop-number.invariant.narrow
