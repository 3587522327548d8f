use Rattle.std.proofs.Common.{◌≡◌, ◌≤◌, ◌++◌, ◌∙◌, ap, arith, rules, sym, [], length, map, FitsSigned}
use mir.Syntax.{w64}
use Rattle.std.specs.Prelude.{◌⊎◌}
use Rattle.deck_case.specs.declared.fault.CaseFault.{CaseFault}
use Rattle.deck_case.specs.Faults.{IsNoMemory}
use Rattle.std.specs.List.{enumerate_from, flat_map, range_with_len}
use Rattle.lp_base.proofs.Machine.{again_64}
use Rattle.deck_case.specs.CaseParts.{column_constraints, constraints_of, constraints_of_columns}
use Rattle.deck_case.specs.Wide.{wide_column, wide_lines}
use Rattle.deck_case.proofs.BoundSteps.{behind}
use Rattle.deck_case.proofs.CaseFacts.{is_case_of_parts}
use Rattle.deck_case.proofs.FaultLaws.{body_fault}
use Rattle.deck_case.proofs.RowSteps.{passed_on}
use Rattle.deck_case.proofs.case_of.Goals as goal

pub returns-in_err-body-clause-named : goal.returns-in_err-body-clause-named
returns-in_err-body-clause-named c =
    let fault = c.in_err-body.field-0.0 in
    λ f has. passed_on c.from_residual-in_err-body.result fault (λ (g : CaseFault). IsNoMemory g ⊎ (g ≡ f)) c.from_residual-in_err-body.ensures.1 (body_fault c.args.deck.now fault f c.in_err-body.ensures.err has)

pub numbers-requires-clause-columns : goal.numbers-requires-clause-columns
numbers-requires-clause-columns c =
    let d = c.args.deck.now in
    c.as_slice-5.ensures.value
    ∙ c.in_ok-columns.ensures.firsts
    ∙ ap (λ cols. map (behind (length c.in_ok-body.body.constraints.items) cols) (range_with_len 0 (length cols))) c.as_slice-3.ensures
    ∙ ap (λ l. map (behind (length l) d.columns) (range_with_len 0 (length d.columns))) c.in_ok-body.ensures.constraints

pub of_parts-requires : goal.of_parts-requires
of_parts-requires c =
    let d = c.args.deck.now in
    let body = c.in_ok-body.body in
    let fits_scale : FitsSigned w64 body.objective.scale = search rules in
    let fits_offset : FitsSigned w64 body.objective.offset = search rules in
    let made : c.of_vec.result ≡ constraints_of d =
    c.of_vec.ensures
    ∙ c.in_ok-columns.ensures.ok
    ∙ ap (λ cols. body.constraints.items ++ constraints_of_columns (enumerate_from 0 cols)) c.as_slice-3.ensures
    ∙ ap (λ l. l ++ column_constraints d) c.in_ok-body.ensures.constraints in
    let none : wide_lines d ≡ [] =
    ap (λ l. l ++ flat_map wide_column d.columns) c.in_ok-body.ensures.narrow
    ∙ ap (λ cols. flat_map wide_column cols) (sym c.as_slice-3.ensures)
    ∙ c.in_ok-columns.ensures.narrow in
    let few : length c.of_vec.result ≤ 2000 = omega (arith, ap length c.of_vec.ensures, c.if-len-gt-MOST_CONSTRAINTS.false, c.len-2.ensures, c.push_columns.new.made.ok) in
    is_case_of_parts d c.len-3.result body.objective.cost _ _ c.of_vec.result c.in_ok-pairs.pairs c.requires none few c.len-3.ensures c.in_ok-body.ensures.cost (again_64 body.objective.scale fits_scale ∙ c.in_ok-body.ensures.scale) (again_64 body.objective.offset fits_offset ∙ c.in_ok-body.ensures.offset) made c.in_ok-pairs.ensures
