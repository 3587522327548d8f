use Rattle.std.proofs.Common.{arith, subst, sym}
use Rattle.std.specs.Option.{option_copied}
use Rattle.lpcc_case.specs.Pieces.{NamesPairs}
use Rattle.tree_engine.specs.Trees.{Holds}
use Rattle.tree_certs.specs.Refuting.{IsRefuted}
use Rattle.tree_certs.proofs.CertLaws.{sound_at_first, whole_derivation}
use Rattle.tree_certs.proofs.certificates.derivation_of.Goals as goal

pub refuted-requires-clause-sound : goal.refuted-requires-clause-sound
refuted-requires-clause-sound c = sound_at_first c.args.case.now (option_copied c.args.best) c.nothing-made.result c.nothing-made.ensures.cuts c.nothing-made.ensures.log

pub refuted-requires-clause-named : goal.refuted-requires-clause-named
refuted-requires-clause-named c = subst (NamesPairs c.args.case.now) (sym c.in_ok-path.ensures) (λ k d inside. absurd (omega (arith, inside)))

pub refuted-requires-clause-holds : goal.refuted-requires-clause-holds
refuted-requires-clause-holds c = subst (λ p. Holds c.args.case.now (option_copied c.args.best) p c.args.tree.now) (sym c.in_ok-path.ensures) c.requires

pub returns : goal.returns
returns c =
    let done = subst (λ p. IsRefuted c.args.case.now (option_copied c.args.best) p c.args.tree.now c.nothing-made.result c.refuted.new.made c.in_ok-refuted.field-0) c.in_ok-path.ensures c.in_ok-refuted.ensures in
    whole_derivation c.args.case.now (option_copied c.args.best) c.args.tree.now c.nothing-made.result c.refuted.new.made c.in_ok-refuted.field-0 c.nothing-made.ensures.cuts c.nothing-made.ensures.log done
