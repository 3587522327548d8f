use Rattle.std.proofs.Common.{◌+◌, ◌∙◌, ◌≡◌, ℤ, pos, ap, sym, subst, get_or, take, to_z, of_z}
use mir.Syntax.{w64}
use Rattle.lp_base.specs.Numbers.{IsNarrow}
use Rattle.lp_base.proofs.Machine.{narrow_again}
use Rattle.edit_solving.specs.Meanings.{AreOwn, signed}
use Rattle.edit_solving.proofs.Naming.{named_more, no_column, signed_narrow}
use Rattle.edit_solving.proofs.meanings.named_terms.Goals as goal

pub returns-in_default : goal.returns-in_default
returns-in_default c =
    let i = c.loop-term.term-index in
    let t = get_or c.args.terms.now i (pos 0, pos 0) in
    no_column c.args.columns c.args.relation c.args.terms.now i c.loop-term-test.true (λ k e. c.in_default.ensures k (narrow_again t.0 (c.requires i (pos 0, pos 0) c.loop-term-test.true).0 ∙ e))

pub loop-term-preserved : goal.loop-term-preserved
loop-term-preserved c =
    let i = c.loop-term.term-index in
    let t = get_or c.args.terms.now i (pos 0, pos 0) in
    let rule = c.requires i (pos 0, pos 0) c.loop-term-test.true in
    let factor : c.signed.result ≡ signed c.args.relation t.1 = c.signed.ensures ∙ ap (signed c.args.relation) (narrow_again t.1 rule.1) in
    let narrow : IsNarrow c.signed.result = subst IsNarrow (sym factor) (signed_narrow c.args.relation t.1 rule.1) in
    subst (AreOwn c.args.columns c.args.relation (take (i + 1) c.args.terms.now)) (sym c.in_ok-push.ensures.ok)
    (named_more c.args.columns c.args.relation c.args.terms.now c.loop-term.named i c.in-Some.column (to_z w64 (of_z w64 c.signed.result)) c.requires c.loop-term-test.true (sym (narrow_again t.0 rule.0) ∙ c.in-Some.ensures.0) c.in-Some.ensures.1 (narrow_again c.signed.result narrow ∙ factor) c.loop-term.invariant)
