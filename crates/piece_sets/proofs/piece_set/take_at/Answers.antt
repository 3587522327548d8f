use Rattle.std.proofs.Common.{arith}
use Rattle.piece_sets.proofs.PieceOrder.{Removes, removed_has, removed_rises}
use Rattle.piece_sets.proofs.piece_set.take_at.Goals as goal

pub returns-clause-ascending : goal.returns-clause-ascending
returns-clause-ascending c =
    let less : Removes c.args.held.now.items c.remove.new.self.items c.args.at = (omega (arith, c.remove.ensures.len, c.args.held.now.ok, c.remove.new.self.ok), c.requires.within, c.remove.ensures.by_index.0, c.remove.ensures.by_index.1) in
    removed_rises c.args.held.now.items c.remove.new.self.items c.args.at less c.requires.ascending

pub returns-clause-rest : goal.returns-clause-rest
returns-clause-rest c p =
    let less : Removes c.args.held.now.items c.remove.new.self.items c.args.at = (omega (arith, c.remove.ensures.len, c.args.held.now.ok, c.remove.new.self.ok), c.requires.within, c.remove.ensures.by_index.0, c.remove.ensures.by_index.1) in
    removed_has c.args.held.now.items c.remove.new.self.items c.args.at p less c.requires.ascending
