use Rattle.std.proofs.Common.{refl}
use Rattle.desk.proofs.DeskLaws.{done_again}
use Rattle.desk.proofs.desk.Desk.draw.Goals as goal

pub returns-then-is_concluded-clause-ok : goal.returns-then-is_concluded-clause-ok
returns-then-is_concluded-clause-ok c = done_again c.args.worker _ c.args.self.now c.self.view_is (c.if-is_concluded.ensures.some refl)
