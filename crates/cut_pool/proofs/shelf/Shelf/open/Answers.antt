use Rattle.std.specs.Arc.{arc_value}
use Rattle.cut_pool.proofs.Readying.{shelf_opened}
use Rattle.cut_pool.proofs.shelf.Shelf.open.Goals as goal

pub invariant_of-self : goal.invariant_of-self
invariant_of-self c =
    let i = c.self.inside in
    let e = c.open_more.ensures in
    shelf_opened (arc_value i.case) i.lanes.items c.open_more.new.lanes.items i.rooms.items c.open_more.new.rooms.items i.handed.items c.self.invariant e.count e.rooms e.waits
