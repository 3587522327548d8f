use Rattle.std.proofs.Common.{◌∙◌, arith, ap, length}
use Rattle.deck_case.specs.DeckCases.{before_column, before_row, side_place, upper_place}
use Rattle.deck_case.proofs.PairSteps.{column_number, listed, named_column, named_row, named_upper, row_number, upper_number}
use Rattle.deck_case.proofs.Places.{side_within}
use Rattle.deck_case.proofs.pairs.side_number.Goals as goal

pub bounds-columns-column : goal.bounds-columns-column
bounds-columns-column c =
    let d = c.args.deck.now in
    (listed (before_column d) c.args.columns.now (length d.columns) c.in-Col.column c.requires.columns (named_column d c.args.quantity c.in-Col.column c.requires.named c.in-Col.is)).0

pub overflow_cast-result-in-Col : goal.overflow_cast-result-in-Col
overflow_cast-result-in-Col c =
    let d = c.args.deck.now in
    omega (arith, side_within d c.args.quantity c.requires.named, c.requires.few, column_number d c.args.quantity c.in-Col.column c.args.columns.now c.requires.named c.in-Col.is c.requires.columns)

pub bounds-as_slice-row : goal.bounds-as_slice-row
bounds-as_slice-row c =
    let d = c.args.deck.now in
    omega (arith, named_row d c.args.quantity c.in-Row.row c.requires.named c.in-Row.is, ap length c.as_slice-in-Row.ensures)

pub bounds-rows-row : goal.bounds-rows-row
bounds-rows-row c =
    let d = c.args.deck.now in
    (listed (before_row d) c.args.rows.now (length d.rows) c.in-Row.row c.requires.rows (named_row d c.args.quantity c.in-Row.row c.requires.named c.in-Row.is)).0

pub overflow_add-result-in-Row : goal.overflow_add-result-in-Row
overflow_add-result-in-Row c =
    let d = c.args.deck.now in
    omega (arith, side_within d c.args.quantity c.requires.named, c.requires.few, row_number d c.args.quantity c.in-Row.row c.side_place-place.result c.args.rows.now c.as_slice-in-Row.result.now c.index-as_slice-row.result c.requires.named c.in-Row.is c.requires.rows c.as_slice-in-Row.ensures (c.side_place-place.ensures ∙ ap side_place c.index-as_slice-row.is))

pub overflow_cast-result-in-Row-2 : goal.overflow_cast-result-in-Row-2
overflow_cast-result-in-Row-2 c =
    let d = c.args.deck.now in
    omega (arith, side_within d c.args.quantity c.requires.named, c.requires.few, row_number d c.args.quantity c.in-Row.row c.side_place-place.result c.args.rows.now c.as_slice-in-Row.result.now c.index-as_slice-row.result c.requires.named c.in-Row.is c.requires.rows c.as_slice-in-Row.ensures (c.side_place-place.ensures ∙ ap side_place c.index-as_slice-row.is))

pub returns-in-Col : goal.returns-in-Col
returns-in-Col c = column_number c.args.deck.now c.args.quantity c.in-Col.column c.args.columns.now c.requires.named c.in-Col.is c.requires.columns

pub returns-in-Row : goal.returns-in-Row
returns-in-Row c = row_number c.args.deck.now c.args.quantity c.in-Row.row c.side_place-place.result c.args.rows.now c.as_slice-in-Row.result.now c.index-as_slice-row.result c.requires.named c.in-Row.is c.requires.rows c.as_slice-in-Row.ensures (c.side_place-place.ensures ∙ ap side_place c.index-as_slice-row.is)

pub bounds-columns-column-in-Upc : goal.bounds-columns-column-in-Upc
bounds-columns-column-in-Upc c =
    let d = c.args.deck.now in
    (listed (before_column d) c.args.columns.now (length d.columns) c.in-Upc.column c.requires.columns (named_upper d c.args.quantity c.in-Upc.column c.requires.named c.in-Upc.is)).0

pub overflow_add-result : goal.overflow_add-result
overflow_add-result c =
    let d = c.args.deck.now in
    omega (arith, side_within d c.args.quantity c.requires.named, c.requires.few, upper_number d c.args.quantity c.in-Upc.column c.upper_place-place.result c.args.columns.now c.as_slice.result.now c.index-as_slice-column.result c.requires.named c.in-Upc.is c.requires.columns c.as_slice.ensures (c.upper_place-place.ensures ∙ ap upper_place c.index-as_slice-column.is))

pub overflow_cast-result-in-Upc-2 : goal.overflow_cast-result-in-Upc-2
overflow_cast-result-in-Upc-2 c =
    let d = c.args.deck.now in
    omega (arith, side_within d c.args.quantity c.requires.named, c.requires.few, upper_number d c.args.quantity c.in-Upc.column c.upper_place-place.result c.args.columns.now c.as_slice.result.now c.index-as_slice-column.result c.requires.named c.in-Upc.is c.requires.columns c.as_slice.ensures (c.upper_place-place.ensures ∙ ap upper_place c.index-as_slice-column.is))

pub returns-in-Upc : goal.returns-in-Upc
returns-in-Upc c =
    let d = c.args.deck.now in
    upper_number d c.args.quantity c.in-Upc.column c.upper_place-place.result c.args.columns.now c.as_slice.result.now c.index-as_slice-column.result c.requires.named c.in-Upc.is c.requires.columns c.as_slice.ensures (c.upper_place-place.ensures ∙ ap upper_place c.index-as_slice-column.is)
