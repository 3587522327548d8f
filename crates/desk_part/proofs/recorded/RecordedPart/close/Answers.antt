use Rattle.std.proofs.Common.{subst, sym}
use Rattle.std.specs.Arc.{arc_value}
use Rattle.std.specs.Prelude.{IfOk}
use Rattle.lpcc_case.specs.Instance.{Instance}
use Rattle.play.specs.Endings.{IsEnding}
use Rattle.desk_part.specs.DeskParts.{IsOver, standing}
use Rattle.desk_part.proofs.AbsorbLaws.{closed_each}
use Rattle.desk_part.proofs.DrawLaws.{closed_on, over_on}
use Rattle.desk_part.proofs.recorded.RecordedPart.close.Goals as goal

pub close-requires-clause-over : goal.close-requires-clause-over
close-requires-clause-over c =
    let P : Instance → Type 0 = λ a. IsOver a c.self.inside.options c.self.inside.part in
    subst P (sym c.deref.ensures) (over_on (standing (arc_value c.self.inside.case) c.self.inside.options c.self.inside.part) c.args.self c.self.view_is c.requires.over)

pub returns-clause-ending : goal.returns-clause-ending
returns-clause-ending c =
    let P : Instance → Type 0 = λ a. IfOk c.close.result (IsEnding a c.self.inside.options c.self.inside.part) in
    closed_on (standing (arc_value c.self.inside.case) c.self.inside.options c.self.inside.part) c.args.self c.close.result c.self.view_is c.self.invariant (subst P c.deref.ensures c.close.ensures.ending)

pub returns-clause-each : goal.returns-clause-each
returns-clause-each c =
    let P : Instance → Type 0 = λ a. IfOk c.close.result (IsEnding a c.self.inside.options c.self.inside.part) in
    closed_each (standing (arc_value c.self.inside.case) c.self.inside.options c.self.inside.part) c.args.self c.close.result c.self.view_is c.self.invariant.1 (subst P c.deref.ensures c.close.ensures.ending)
