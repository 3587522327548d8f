use Rattle.std.proofs.Common.{List, ap, subst, ◌∙◌}
use Rattle.rayon.proofs.ListFacts.{IfOk-then}
use Rattle.rayon.proofs.ToStd.{slice-AllZip}
use Rattle.cert2_text.specs.Wholes.{Terms}
use Rattle.cert2_check.specs.Results2.{CutPasses}
use Rattle.parallel_check.proofs.Marks.{Marks, marked_at}
use Rattle.parallel_check.proofs.testing.test_cuts.Goals as goal

pub returns : goal.returns
returns g c =
    let slice = ap (λ it. it.slice.now) c.map.ensures.base ∙ c.par_iter.ensures in
    let lists = c.in_ok-lists.lists.lists in
    IfOk-then c.collect.result _ _ c.collect.ensures (λ v h.
    let chain = rw (c.map.ensures.f) at h.1 in
    let marks = marked_at (CutPasses c.args.case.now c.args.value lists) c.args.lines.now v.items (rw h.2 (slice-AllZip chain.0 c.args.lines.now (chain.1 ∙ slice) (Marks (CutPasses c.args.case.now c.args.value lists)) h.0 chain.2)) in
    λ k x here marked. subst (λ (ls : List Terms). CutPasses c.args.case.now c.args.value ls x) c.in_ok-lists.ensures.0 (marks k x here marked))
