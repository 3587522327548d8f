use Rattle.std.proofs.Common.{◌≡◌, ◌-◌, drop}
use Rattle.lp_base.specs.Ascending.{ascends_by}
use Rattle.lp_base.proofs.ascending.is_ascending.Given as goal

abbrev pub invariant-loop-i : goal.invariant-loop-i
invariant-loop-i g l = ascends_by g.T.Numbered.number l.list ≡ ascends_by g.T.Numbered.number (drop (l.i - 1) l.list)
