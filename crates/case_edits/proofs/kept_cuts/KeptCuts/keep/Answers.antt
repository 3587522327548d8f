use Rattle.std.proofs.Common.{sym, subst}
use Rattle.std.specs.Prelude.{All, is_ok}
use Rattle.cuts.specs.Cuts.{Passes}
use Rattle.case_edits.specs.Kept.{KeptView}
use Rattle.case_edits.proofs.KeptLaws.{all_appended}
use Rattle.case_edits.proofs.kept_cuts.KeptCuts.keep.Goals as goal

pub invariant_of-self : goal.invariant_of-self
invariant_of-self c = all_appended c.self.inside.case (is_ok c.append.result) c.self.inside.cuts.items c.args.cuts.items c.append.new.self.items c.append.ensures.items c.self.invariant (subst (λ (v : KeptView). All (Passes v.case_of) c.args.cuts.items) (sym c.self.view_is) c.requires)
