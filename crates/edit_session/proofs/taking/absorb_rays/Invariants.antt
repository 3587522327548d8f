use Rattle.std.proofs.Common.{take}
use Rattle.edit_session.specs.Rounds.{IsBegun}
use Rattle.edit_session.proofs.taking.absorb_rays.Given as goal

abbrev pub invariant-loop-cut : goal.invariant-loop-cut
invariant-loop-cut l = IsBegun l.case l.fn.desk.options l.kept l.fn.desk (take l.cut-index l.kept) l.desk l.waiting.items
