use Rattle.desk_part.proofs.SearchLaws.{cut_result, removed_is}
use Rattle.desk_part.specs.contracts.desk_part.DeskPart.{the_view}
use Rattle.desk_part.proofs.desk_part.DeskPart.take_cut.Goals as goal

pub invariant_of-self-2 : goal.invariant_of-self-2
invariant_of-self-2 c = cut_result (the_view c.self.inside) c.args.cut c.args.best c.lowered.result c.args.piece.now c.self.inside.blocked c.remove.new.self c.self.inside.kept c.absorb.new.absorbed.items c.absorb.new.log c.requires.bars
    (removed_is c.args.piece.now c.sides.result.now c.self.inside.blocked c.remove.new.self c.sides.ensures c.remove.ensures) c.in_default.ensures.cuts c.in_default.ensures.start c.self.invariant
