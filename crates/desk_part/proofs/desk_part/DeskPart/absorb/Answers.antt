use Rattle.desk_part.specs.contracts.desk_part.DeskPart.{the_view}
use Rattle.desk_part.proofs.AbsorbLaws.{absorb_result}
use Rattle.desk_part.proofs.desk_part.DeskPart.absorb.Goals as goal

pub invariant_of-self : goal.invariant_of-self
invariant_of-self c =
    absorb_result c.absorb.result (the_view c.self.inside) c.args.cut c.self.inside.blocked c.self.inside.kept c.absorb.new.absorbed.items c.absorb.new.log c.absorb.ensures.cuts c.absorb.ensures.start c.absorb.ensures.same_cuts c.absorb.ensures.same_log c.self.invariant
