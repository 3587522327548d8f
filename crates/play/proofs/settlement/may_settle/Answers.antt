use Rattle.std.proofs.Common.{sym, subst, IsTrue}
use Rattle.std.specs.Prelude.{◌↔◌, IfOk}
use Rattle.play.specs.declared.outcome.Outcome.{Outcome}
use Rattle.play.specs.Lawful.{MaySettle}
use Rattle.play.proofs.settlement.may_settle.Goals as goal

pub returns-in-Unbounded : goal.returns-in-Unbounded
returns-in-Unbounded c = subst (λ (w : Outcome). IfOk c.is_direction.result (λ may. IsTrue may ↔ MaySettle c.args.case.now c.args.ticket.now w)) (sym c.in-Unbounded.is) c.is_direction.ensures
