use Rattle.std.specs.Arc.{arc_value}
use Rattle.desk_part.specs.DeskParts.{standing}
use Rattle.desk_part.proofs.AbsorbLaws.{best_of}
use Rattle.desk_part.proofs.recorded.RecordedPart.best.Goals as goal

pub returns-clause-feasible : goal.returns-clause-feasible
returns-clause-feasible c =
    best_of (standing (arc_value c.self.inside.case) c.self.inside.options c.self.inside.part) c.args.self.now c.self.view_is c.self.invariant
