use Rattle.std.proofs.Common.{is_ok}
use Rattle.desk_part.proofs.SearchLaws.{aside_result}
use Rattle.desk_part.specs.contracts.desk_part.DeskPart.{the_view}
use Rattle.desk_part.proofs.desk_part.DeskPart.set_aside.Goals as goal

pub invariant_of-self : goal.invariant_of-self
invariant_of-self c = aside_result (is_ok c.push.result) (the_view c.self.inside) c.args.self.now c.args.ticket c.args.cause c.self.inside.blocked c.self.inside.kept c.push.new.self.items c.self.view_is c.requires c.push.ensures.items c.self.invariant
