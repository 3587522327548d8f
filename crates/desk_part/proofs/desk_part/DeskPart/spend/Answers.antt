use Rattle.desk_part.proofs.DrawLaws.{out}
use Rattle.desk_part.proofs.desk_part.DeskPart.spend.Goals as goal

pub returns-then-is_idle : goal.returns-then-is_idle
returns-then-is_idle c = out c.args.case.now c.args.options.now c.args.self.now c.args.worker c.args.left.now c.requires.carried c.requires.waiting (c.is_idle.ensures.idle c.if-is_idle.true) c.requires.spent c.requires.first
