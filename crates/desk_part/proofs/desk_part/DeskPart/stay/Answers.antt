use Rattle.desk_part.proofs.DrawLaws.{done_blocked}
use Rattle.desk_part.proofs.desk_part.DeskPart.stay.Goals as goal

pub returns-then-is_idle : goal.returns-then-is_idle
returns-then-is_idle c = done_blocked c.args.case.now c.args.options.now c.args.self.now c.args.worker c.requires.waiting (c.is_idle.ensures.idle c.if-is_idle.true) c.requires.blocked
