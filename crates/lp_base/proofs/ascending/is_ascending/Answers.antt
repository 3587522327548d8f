use Rattle.std.proofs.Common.{sym, ◌∙◌, ◌-◌, arith}
use Rattle.lp_base.proofs.Rises.{ascends_end}
use Rattle.lp_base.proofs.ascending.is_ascending.Goals as goal

pub returns : goal.returns
returns g c = sym (c.loop-i.invariant ∙ ascends_end g.T.Numbered.number c.args.list.now (c.loop-i.i - 1) (omega arith))
