use Rattle.std.proofs.Common.{subst}
use Rattle.std.specs.Arc.{arc_value}
use Rattle.std.specs.Prelude.{IfOk, OnErr}
use Rattle.lpcc_case.specs.Instance.{Instance}
use Rattle.desk_part.specs.DeskParts.{Draws, Learns, standing}
use Rattle.desk_part.proofs.DrawLaws.{draw_keeps, drawn_on, drawn_from, learned_on}
use Rattle.desk_part.proofs.recorded.RecordedPart.draw.Goals as goal

pub invariant_of-self : goal.invariant_of-self
invariant_of-self c =
    let P : Instance → Type 0 = λ a. IfOk c.draw.result (Draws a c.self.inside.options c.args.worker c.self.inside.part c.draw.new.self) in
    let Q : Instance → Type 0 = λ a. OnErr c.draw.result (Learns a c.self.inside.options c.self.inside.part c.draw.new.self) in
    draw_keeps (arc_value c.self.inside.case) c.self.inside.options c.args.worker c.self.inside.part c.draw.new.self c.draw.result (subst P c.deref.ensures c.draw.ensures.ok) (subst Q c.deref.ensures c.draw.ensures.err) c.self.invariant

pub returns-clause-ok : goal.returns-clause-ok
returns-clause-ok c =
    let a = arc_value c.self.inside.case in
    let P : Instance → Type 0 = λ x. IfOk c.draw.result (Draws x c.self.inside.options c.args.worker c.self.inside.part c.draw.new.self) in
    drawn_from c.args.worker (standing a c.self.inside.options c.self.inside.part) c.args.self.now (standing a c.self.inside.options c.draw.new.self) c.draw.result c.self.view_is
    (drawn_on a c.self.inside.options c.args.worker c.self.inside.part c.draw.new.self c.draw.result (subst P c.deref.ensures c.draw.ensures.ok))

pub returns-clause-err : goal.returns-clause-err
returns-clause-err c =
    let a = arc_value c.self.inside.case in
    let Q : Instance → Type 0 = λ x. OnErr c.draw.result (Learns x c.self.inside.options c.self.inside.part c.draw.new.self) in
    learned_on a c.self.inside.options c.self.inside.part c.draw.new.self c.args.self.now c.draw.result c.self.view_is (subst Q c.deref.ensures c.draw.ensures.err)
