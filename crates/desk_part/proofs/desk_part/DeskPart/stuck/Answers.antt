use Rattle.desk_part.proofs.CloseLaws.{stuck_none, stuck_result}
use Rattle.desk_part.specs.contracts.desk_part.DeskPart.{the_view}
use Rattle.desk_part.proofs.desk_part.DeskPart.stuck.Goals as goal

pub unreachable-requires : goal.unreachable-requires
unreachable-requires c = stuck_none c.args.case.now (the_view c.self.inside) c.args.self c.as_slice.result.now c.as_slice-2.result.now c.self.view_is c.as_slice.ensures.value c.as_slice-2.ensures.value c.requires.idle c.requires.blocked c.in_default.ensures

pub returns : goal.returns
returns c = stuck_result c.args.case.now (the_view c.self.inside) c.args.self c.as_slice.result.now c.as_slice-2.result.now c.in-Some.at c.swap_remove.result c.ending_of.result c.self.view_is c.as_slice.ensures.value c.as_slice-2.ensures.value c.requires.idle c.requires.blocked c.in-Some.ensures c.swap_remove.ensures.value c.ending_of.ensures
