use Rattle.case_edits.proofs.KeptLaws.{kept_pass}
use Rattle.case_edits.proofs.kept_cuts.KeptCuts.edit.Goals as goal

pub invariant_of-self : goal.invariant_of-self
invariant_of-self c = kept_pass c.in_ok-case.case c.as_slice.result.now c.in_ok-case.cuts.items c.in_ok-case.ensures.ok.kept_are
