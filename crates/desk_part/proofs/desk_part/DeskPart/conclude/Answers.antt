use Rattle.std.proofs.Common.{ap}
use Rattle.std.specs.Prelude.{Some}
use Rattle.play.specs.Parts.{Part}
use Rattle.desk_part.proofs.DrawLaws.{concludes, pauses_refuted}
use Rattle.desk_part.proofs.desk_part.DeskPart.conclude.Goals as goal

pub returns-then-is_idle : goal.returns-then-is_idle
returns-then-is_idle c =
    let with_verdict : Part → Part = λ x. record x { verdict = Some c.kind.result } in
    concludes c.args.case.now c.args.options.now c.args.self.now _ c.args.worker c.kind.result c.requires.waiting c.kind.ensures (ap with_verdict c.self.view_is)

pub returns-else-is_idle : goal.returns-else-is_idle
returns-else-is_idle c = pauses_refuted c.args.case.now c.args.options.now c.args.self.now c.args.worker c.requires.carried c.requires.waiting (c.is_idle.ensures.flying c.if-is_idle.false) c.requires.empty
