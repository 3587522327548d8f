use Rattle.std.proofs.Common.{◌∙◌, ap, sym}
use Rattle.deck_case.specs.CaseParts.{coefficients, terms_of}
use Rattle.deck_case.specs.Steps.{IsFirstOf}
use Rattle.deck_case.specs.Wide.{has_wide, judged_numbers, wide_row}
use Rattle.deck_case.proofs.RowSteps.{part_fault, passed_on, row_narrow, row_wide_by_ends, row_wide_by_terms, range_cleared, narrow_terms, row_positive, rhs_cleared, entries_cleared}
use Rattle.deck_case.proofs.rows.push_row.Goals as goal

pub terms-requires-clause-positive : goal.terms-requires-clause-positive
terms-requires-clause-positive c = row_positive c.args.row.now.rhs c.args.row.now.range c.args.entries.now c.in-Some.factor c.requires.numbers c.in-Some.ensures.0

pub terms-requires-clause-clears : goal.terms-requires-clause-clears
terms-requires-clause-clears c = entries_cleared c.args.row.now.rhs c.args.row.now.range c.args.entries.now c.in-Some.factor c.requires.numbers c.in-Some.ensures.0

pub returns-in_err-terms-clause-err : goal.returns-in_err-terms-clause-err
returns-in_err-terms-clause-err c =
    let es = c.args.entries.now in
    let r = c.args.row.now in
    let m = c.in-Some.factor in
    passed_on c.from_residual.result c.in_err-terms.field-0.0 (IsFirstOf (wide_row es r)) c.from_residual.ensures.1
    (part_fault r.line (coefficients (terms_of m es)) (judged_numbers r.letter es r) c.in_err-terms.field-0.0 (row_wide_by_terms es r m c.requires.letter c.in-Some.ensures.0) c.in_err-terms.ensures.err)

pub ends_of_row-requires-clause-positive : goal.ends_of_row-requires-clause-positive
ends_of_row-requires-clause-positive c = row_positive c.args.row.now.rhs c.args.row.now.range c.args.entries.now c.in-Some.factor c.requires.numbers c.in-Some.ensures.0

pub ends_of_row-requires-clause-clears : goal.ends_of_row-requires-clause-clears
ends_of_row-requires-clause-clears c = rhs_cleared c.args.row.now.rhs c.args.row.now.range c.args.entries.now c.in-Some.factor c.requires.numbers c.in-Some.ensures.0

pub ends_of_row-requires-clause-range : goal.ends_of_row-requires-clause-range
ends_of_row-requires-clause-range c = range_cleared c.args.row.now.rhs c.args.row.now.range c.args.entries.now c.in-Some.factor c.requires.numbers c.in-Some.ensures.0

pub returns-in_default-ends_of_row-clause-err : goal.returns-in_default-ends_of_row-clause-err
returns-in_default-ends_of_row-clause-err c = row_wide_by_ends c.args.entries.now c.args.row.now c.in-Some.factor c.requires.letter c.in-Some.ensures.0 c.in_default-ends_of_row.ensures

pub push_ends-requires-clause-terms : goal.push_ends-requires-clause-terms
push_ends-requires-clause-terms c = narrow_terms c.in_ok-terms.terms c.in_ok-terms.ensures.narrow

pub returns-clause-narrow : goal.returns-clause-narrow
returns-clause-narrow c =
    let es = c.args.entries.now in
    let m = c.in-Some.factor in
    let terms = ap (λ t. has_wide (coefficients t)) (sym c.in_ok-terms.ensures.ok) ∙ c.in_ok-terms.ensures.narrow in
    row_narrow es c.args.row.now m c.requires.letter c.in-Some.ensures.0 c.in-Some.ensures.1 terms c.in-Some-ends_of_row.ensures.2
