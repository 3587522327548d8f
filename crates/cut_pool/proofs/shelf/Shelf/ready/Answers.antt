use Rattle.cut_pool.proofs.Readying.{marked_fits}
use Rattle.cut_pool.proofs.shelf.Shelf.ready.Goals as goal

pub turn-requires : goal.turn-requires
turn-requires c = marked_fits c.args.self.now c.args.worker c.args.reach.now c.mark.new.self c.requires c.mark.ensures.same c.mark.ensures.marked
