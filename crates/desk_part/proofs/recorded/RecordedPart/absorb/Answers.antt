use Rattle.std.specs.Arc.{arc_value}
use Rattle.desk_part.specs.DeskParts.{standing}
use Rattle.desk_part.proofs.AbsorbLaws.{absorb_keeps, absorbed_on, unabsorbed_on}
use Rattle.desk_part.proofs.recorded.RecordedPart.absorb.Goals as goal

pub invariant_of-self : goal.invariant_of-self
invariant_of-self c =
    absorb_keeps c.absorb.result (standing (arc_value c.self.inside.case) c.self.inside.options c.self.inside.part) c.args.self.now c.absorb.new.self c.args.cut c.self.view_is c.requires.may c.absorb.ensures.ok c.absorb.ensures.err c.self.invariant

pub returns-clause-ok : goal.returns-clause-ok
returns-clause-ok c =
    absorbed_on c.absorb.result (standing (arc_value c.self.inside.case) c.self.inside.options c.self.inside.part) c.args.self.now c.absorb.new.self c.args.cut c.self.view_is c.requires.may c.absorb.ensures.ok

pub returns-clause-err : goal.returns-clause-err
returns-clause-err c =
    unabsorbed_on c.absorb.result (standing (arc_value c.self.inside.case) c.self.inside.options c.self.inside.part) c.args.self.now c.absorb.new.self c.self.view_is c.absorb.ensures.err
