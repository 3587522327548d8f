use Rattle.std.proofs.Common.{ap, ◌∙◌}
use Rattle.rayon.proofs.ListFacts.{IfOk-then}
use Rattle.rayon.proofs.ToStd.{slice-AllZip}
use Rattle.parallel_check.specs.Testing.{AreTested1, CutPasses1}
use Rattle.parallel_check.proofs.Marks.{Marks, marked_at}
use Rattle.parallel_check.proofs.testing.test_cuts1.Goals as goal

pub returns : goal.returns
returns g c =
    let slice = ap (λ it. it.slice.now) c.map.ensures.base ∙ c.par_iter.ensures in
    IfOk-then c.collect.result _ _ c.collect.ensures (λ v h.
    let chain = rw (c.map.ensures.f) at h.1 in
    marked_at (CutPasses1 c.args.case.now c.args.value) c.args.lines.now v.items (rw h.2 (slice-AllZip chain.0 c.args.lines.now (chain.1 ∙ slice) (Marks (CutPasses1 c.args.case.now c.args.value)) h.0 chain.2)))
