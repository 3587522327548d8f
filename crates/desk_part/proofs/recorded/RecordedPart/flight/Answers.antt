use Rattle.std.proofs.Common.{subst}
use Rattle.std.specs.Arc.{arc_value}
use Rattle.play.specs.Truth.{AreApart, number_of}
use Rattle.play.proofs.Orders.{carried_orderly}
use Rattle.desk_part.specs.DeskParts.{Standing}
use Rattle.desk_part.proofs.recorded.RecordedPart.flight.Goals as goal

pub returns-clause-apart : goal.returns-clause-apart
returns-clause-apart c =
    subst (λ (s : Standing). AreApart number_of s.part.flight) c.self.view_is
    (carried_orderly (arc_value c.self.inside.case) c.self.inside.options c.self.invariant.0.0 c.self.inside.part c.self.invariant.0.1).flight
