use Rattle.std.proofs.Common.{◌+◌, ◌∙◌, ℤ, pos, sym, subst, get_or, set, take}
use Rattle.std.proofs.lemmas.List.{take_all}
use Rattle.lp_base.specs.Numbers.{IsNarrow}
use Rattle.lp_base.proofs.Machine.{narrow_again}
use Rattle.cert_check.proofs.Dense.{AreWritten, written_all, written_more}
use Rattle.edit_solving.proofs.meanings.cost_of.Goals as goal

pub loop-term-preserved : goal.loop-term-preserved
loop-term-preserved c =
    let terms = c.args.terms.now in
    let i = c.loop-term.term-index in
    let t = get_or terms i (0, pos 0) in
    let columns = c.args.columns in
    let narrow : IsNarrow t.1 = c.requires.narrow i (0, pos 0) c.loop-term-test.true in
    let P : ℤ → Type 0 = λ y. AreWritten columns (set c.loop-term.cost.items t.0 y) (take (i + 1) terms) in
    subst P (sym (narrow_again t.1 narrow))
    (written_more columns c.loop-term.cost.items terms i c.requires.terms.ascending c.loop-term-test.true (c.requires.terms.named i (0, pos 0) c.loop-term-test.true).0 narrow c.loop-term.invariant)

pub returns : goal.returns
returns c =
    let terms = c.args.terms.now in
    let columns = c.args.columns in
    let items = c.loop-term.cost.items in
    c.of_vec.ensures ∙ written_all columns items terms (subst (AreWritten columns items) (take_all c.loop-term.term-index terms c.loop-term-test.false) c.loop-term.invariant)
