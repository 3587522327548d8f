use Rattle.std.proofs.Common.{◌∙◌, ap, arith, length, subst, sym}
use Rattle.std.specs.List.{flat_map}
use Rattle.decks.specs.declared.deck.Column.{Column}
use Rattle.deck_case.specs.Steps.{IsFirstOf}
use Rattle.deck_case.specs.Wide.{wide_column}
use Rattle.deck_case.proofs.BoundSteps.{behind, behind_is, columns_done, columns_more}
use Rattle.deck_case.proofs.Numbered.{first_here, none_more, numbers_pushed}
use Rattle.deck_case.proofs.RowSteps.{passed_on}
use Rattle.deck_case.proofs.columns.push_columns.Goals as goal

pub returns-in_err-push_column-clause-err : goal.returns-in_err-push_column-clause-err
returns-in_err-push_column-clause-err c =
    let cols = c.args.columns.now in
    let fault = c.in_err-push_column.field-0.0 in
    let first = subst (λ (x : Column). IsFirstOf (wide_column x) fault) c.index-columns-number.is c.in_err-push_column.ensures.err in
    passed_on c.from_residual-in_err-push_column.result fault (IsFirstOf (flat_map wide_column cols)) c.from_residual-in_err-push_column.ensures.1
    (first_here wide_column cols c.loop-number.number _ fault c.loop-number-test.true c.loop-number.invariant.narrow first)

pub loop-number-preserved : goal.loop-number-preserved
loop-number-preserved c =
    let cols = c.args.columns.now in
    let old = c.args.made.now.items in
    let k = c.loop-number.number in
    let inv = c.loop-number.invariant in
    record {
      done = columns_more old c.loop-number.made.items c.push_column.new.made.items cols k c.index-columns-number.result c.index-columns-number.result c.loop-number-test.true c.index-columns-number.is inv.done c.in_ok-push_column.ensures.ok;
      firsts = numbers_pushed (behind (length old) cols) k c.loop-number.firsts.items c.push.new.self.items c.len.result inv.firsts (behind_is old c.loop-number.made.items cols k c.len.result inv.done (omega (arith, c.len.ensures, c.loop-number.made.ok))) c.in_ok-push.ensures.items;
      narrow = none_more wide_column cols k c.index-columns-number.result c.loop-number-test.true inv.narrow (ap wide_column (sym c.index-columns-number.is) ∙ c.in_ok-push_column.ensures.narrow);
    }

pub returns-clause-ok : goal.returns-clause-ok
returns-clause-ok c = columns_done c.args.made.now.items c.loop-number.made.items c.args.columns.now c.loop-number.number c.loop-number-test.false c.loop-number.invariant.done
