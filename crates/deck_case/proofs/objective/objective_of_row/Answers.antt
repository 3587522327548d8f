use Rattle.std.proofs.Common.{◌<◌, ◌∙◌, subst, sym, None, All}
use Rattle.std.specs.Prelude.{IsTrue}
use Rattle.lp_base.specs.Ascending.{ascends_by, number_of}
use Rattle.deck_case.proofs.RowSteps.{entries_cleared, rhs_cleared, row_positive}
use Rattle.deck_case.proofs.TermFacts.{terms_ascend, terms_named}
use Rattle.deck_case.proofs.objective.objective_of_row.Goals as goal

pub whole-requires-clause-positive : goal.whole-requires-clause-positive
whole-requires-clause-positive c = row_positive c.args.row.now.rhs None c.args.entries.now c.in-Some.scale c.requires.numbers c.in-Some.ensures.0

pub whole-requires-clause-clears : goal.whole-requires-clause-clears
whole-requires-clause-clears c = rhs_cleared c.args.row.now.rhs None c.args.entries.now c.in-Some.scale c.requires.numbers c.in-Some.ensures.0

pub terms-requires-clause-positive : goal.terms-requires-clause-positive
terms-requires-clause-positive c = row_positive c.args.row.now.rhs None c.args.entries.now c.in-Some.scale c.requires.numbers c.in-Some.ensures.0

pub terms-requires-clause-clears : goal.terms-requires-clause-clears
terms-requires-clause-clears c = entries_cleared c.args.row.now.rhs None c.args.entries.now c.in-Some.scale c.requires.numbers c.in-Some.ensures.0

pub dense-requires-clause-ascending : goal.dense-requires-clause-ascending
dense-requires-clause-ascending c =
    let m = c.in-Some.scale in
    subst (λ ts. IsTrue (ascends_by number_of ts)) (sym (c.as_slice.ensures ∙ c.in_ok-terms.ensures.ok)) (terms_ascend m c.args.entries.now c.requires.ascending)

pub dense-requires-clause-named : goal.dense-requires-clause-named
dense-requires-clause-named c =
    let m = c.in-Some.scale in
    subst (All (λ t. t.0 < c.args.columns)) (sym (c.as_slice.ensures ∙ c.in_ok-terms.ensures.ok)) (terms_named m c.args.columns c.args.entries.now c.requires.named)
