use Rattle.std.proofs.Common.{◌≡◌, ◌∙◌, ◌∷◌, ◌++◌, [], ap, of_z, pos, rules, subst, sym, FitsSigned}
use mir.Syntax.{w64, w128}
use Rattle.lp_base.proofs.Machine.{again_64}
use Rattle.std.specs.Prelude.{slice_get}
use Rattle.deck_case.specs.CaseParts.{coefficients, terms_of}
use Rattle.deck_case.specs.Steps.{IsClearedBy}
use Rattle.decks.specs.declared.deck.Entry.{Entry}
use Rattle.deck_case.proofs.TermSteps.{named_wide, term_step, term_wide}
use Rattle.deck_case.proofs.entries.terms.Goals as goal

pub whole-requires-clause-clears : goal.whole-requires-clause-clears
whole-requires-clause-clears c =
    subst (λ (e : Entry). IsClearedBy c.args.multiplier e.value) (sym c.entry-item.is) (c.requires.clears c.loop-entry.entry-index c.entry-item.result c.loop-entry-test.true)

pub returns-in_default-clause-err : goal.returns-in_default-clause-err
returns-in_default-clause-err c =
    let es = c.args.entries.now in
    let nonzero : c.entry-item.result.value.num ≡ pos 0 → ⊥ = λ h. c.if-num-eq0.false (ap (of_z w128) (c.num.ensures.value ∙ h)) in
    let wide = term_wide c.args.multiplier es c.loop-entry.entry-index c.entry-item.result c.entry-item.result c.loop-entry-test.true c.entry-item.is nonzero (sym c.in_default.is ∙ c.whole.ensures) in
    ap (λ l. slice_get l 0) (named_wide c.args.line (coefficients (terms_of c.args.multiplier es)) wide)

pub loop-entry-preserved : goal.loop-entry-preserved
loop-entry-preserved c =
    let es = c.args.entries.now in
    let nonzero : c.entry-item.result.value.num ≡ pos 0 → ⊥ = λ h. c.if-num-eq0.false (ap (of_z w128) (c.num.ensures.value ∙ h)) in
    let fits : FitsSigned w64 c.in-Some.coefficient = search rules in
    let pushed = c.in_ok-push.ensures.ok ∙ ap (λ z. c.loop-entry.made ++ (c.entry-item.result.column, z) ∷ []) (again_64 c.in-Some.coefficient fits) in
    let step = term_step c.args.multiplier es c.loop-entry.entry-index c.entry-item.result c.entry-item.result c.loop-entry.made c.push.new.self c.in-Some.coefficient c.loop-entry-test.true c.entry-item.is nonzero c.loop-entry.invariant.so_far c.loop-entry.invariant.narrow (sym c.in-Some.is ∙ c.whole.ensures) pushed in
    record { so_far = step.0; narrow = step.1 }
