use Rattle.std.proofs.Common.{sym, ◌∙◌}
use Rattle.parallel_check.proofs.Cuts.{cut_marked}
use Rattle.parallel_check.proofs.testing.passes.Goals as goal

pub returns-then-is_cut : goal.returns-then-is_cut
returns-then-is_cut c passed =
    cut_marked c.args.case.now c.args.value c.args.lists.now c.args.line.now (sym c.is_cut.ensures ∙ c.if-is_cut.true) c.requires.only (c.is_faultless.ensures passed)
