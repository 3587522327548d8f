use Rattle.case_edits.specs.Edits.{AreTerms}
use Rattle.edit_text.specs.declared.script.Relation.TheVariants.{Ge}
use Rattle.edit_solving.specs.Meanings.{AreOwn}
use Rattle.edit_solving.proofs.Meaning.{costing}
use Rattle.edit_solving.proofs.meanings.costing.Goals as goal

pub returns : goal.returns
returns c =
    let columns = c.columns-columns.result in
    let own : AreOwn columns Ge c.args.terms.now c.in-Some.named × AreTerms columns c.in-Some.named = rw c.in-Some.is at c.in_ok-named.ensures in
    costing c.args.case.now columns c.args.terms.now c.in-Some.named c.as_slice.result.now c.in_ok-cost.cost c.columns-columns.ensures own.0.names own.1 c.as_slice.ensures c.in_ok-cost.ensures
