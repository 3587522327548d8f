use Rattle.std.proofs.Common.{ℤ, sym, subst}
use Rattle.std.proofs.lemmas.Bool.{both_ways}
use Rattle.lp_base.proofs.Machine.{narrow_again}
use Rattle.dict.specs.Dictionaries.{form_at, entry_at}
use Rattle.walks.specs.Duals.{Helps}
use Rattle.lex_simplex.proofs.Firsts.{first_stays, helps_at}
use Rattle.lex_simplex.proofs.enter.better.Goals as goal

pub returns-then-not-helps : goal.returns-then-not-helps
returns-then-not-helps c =
    let a = c.args.case.now in
    let t = c.args.tight.now in
    let d = c.args.dict.now in
    first_stays a d.nonbasic c.args.entries.now (λ j. Helps a t c.args.falls (form_at d.nonbasic j) (entry_at d c.args.row j)) c.args.i c.args.best
    (λ p. both_ways c.helps.result c.if-not-helps.true (c.helps.ensures.1 (subst (λ (z : ℤ). Helps a t c.args.falls c.nonbasic.result z) (sym (narrow_again c.term_of-term.result.1 c.term_of-term.ensures.narrow)) (helps_at a t c.args.falls d c.args.row c.args.i c.args.entries.now c.term_of-term.result c.nonbasic.result c.requires.entries c.term_of-term.ensures.term c.term_of-term.ensures.value c.nonbasic.ensures p))))
    c.requires.best
