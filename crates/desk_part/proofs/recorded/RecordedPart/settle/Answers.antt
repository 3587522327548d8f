use Rattle.std.proofs.Common.{subst}
use Rattle.std.specs.Arc.{arc_value}
use Rattle.std.specs.Prelude.{OnOk}
use Rattle.lpcc_case.specs.Instance.{Instance}
use Rattle.desk_part.specs.DeskParts.{Settles}
use Rattle.desk_part.proofs.DrawLaws.{settle_keeps, settled_on}
use Rattle.desk_part.proofs.recorded.RecordedPart.settle.Goals as goal

pub invariant_of-self : goal.invariant_of-self
invariant_of-self c =
    let P : Instance → Type 0 = λ a. OnOk c.settle.result (Settles a c.self.inside.options c.self.inside.part c.args.ticket c.args.outcome c.settle.new.self) in
    settle_keeps (arc_value c.self.inside.case) c.self.inside.options c.args.ticket c.args.outcome c.self.inside.part c.settle.new.self c.settle.result (subst P c.deref.ensures c.settle.ensures.ok) c.settle.ensures.settled c.settle.ensures.err c.self.invariant

pub returns-clause-ok : goal.returns-clause-ok
returns-clause-ok c =
    let P : Instance → Type 0 = λ a. OnOk c.settle.result (Settles a c.self.inside.options c.self.inside.part c.args.ticket c.args.outcome c.settle.new.self) in
    settled_on (arc_value c.self.inside.case) c.self.inside.options c.args.ticket c.args.outcome c.self.inside.part c.settle.new.self c.args.self.now c.settle.result c.self.view_is (subst P c.deref.ensures c.settle.ensures.ok)
