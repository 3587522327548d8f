use Rattle.std.proofs.Common.{ℤ, ◌≡◌, ◌∙◌, ◌∷◌, [], ◌++◌, ap, subst, arith, rules, to_z, of_z, FitsSigned, drop}
use Rattle.std.proofs.lemmas.Int.{to_z-of_z}
use mir.Syntax.{w64}
use Rattle.dict.specs.Exchanges.{entered}
use Rattle.dict.proofs.Machine.{read_again}
use Rattle.dict.proofs.SparseSums.{term_within}
use Rattle.dict.proofs.Enters.{enter_step, enter_done}
use Rattle.dict.proofs.exchange.entered_entries.Goals as goal

pub entered_number-requires-clause-term : goal.entered_number-requires-clause-term
entered_number-requires-clause-term c = (term_within _ 0 c.args.places c.args.entries.now c.loop-i.i c.term_at-term.result c.loop-i-test.true c.term_at-term.ensures c.requires.terms).2

pub loop-i-preserved : goal.loop-i-preserved
loop-i-preserved c =
    let f : FitsSigned w64 c.entered_number.result = search rules in
    enter_step c.args.flip c.args.e (to_z w64 (of_z w64 c.args.den)) c.args.entries.now c.loop-i.i c.term_at-term.result c.entered_number.result c.loop-i.out.items c.put_narrow.new.out.items c.loop-i-test.true c.term_at-term.ensures c.entered_number.ensures (c.in_ok-put_narrow.ensures ∙ ap (λ (z : ℤ). c.loop-i.out.items ++ (c.term_at-term.result.0, z) ∷ []) (to_z-of_z w64 c.entered_number.result f)) c.loop-i.invariant

pub returns : goal.returns
returns c =
    enter_done c.args.flip c.args.e c.args.den c.args.entries.now c.loop-i.out.items c.loop-i.i (omega (arith, c.loop-i-test.false)) (subst (λ (z : ℤ). c.loop-i.out.items ++ entered c.args.flip c.args.e z (drop c.loop-i.i c.args.entries.now) ≡ entered c.args.flip c.args.e z c.args.entries.now) (read_again c.args.den c.requires.den) c.loop-i.invariant)
