use Rattle.piece_sets.proofs.PieceOrder.{inserts_of, inserted_has, inserted_rises}
use Rattle.piece_sets.proofs.piece_set.put_at.Goals as goal

pub returns-in-Ok-clause-ascending : goal.returns-in-Ok-clause-ascending
returns-in-Ok-clause-ascending c =
    inserted_rises c.args.held.now.items c.insert.new.self.items c.args.at c.args.piece (inserts_of c.args.held.now.items c.insert.new.self.items c.args.at c.args.piece c.requires.place.within c.in-Ok.ensures.items) c.requires.ascending c.requires.place c.requires.other

pub returns-in-Ok-clause-ok : goal.returns-in-Ok-clause-ok
returns-in-Ok-clause-ok c p =
    inserted_has c.args.held.now.items c.insert.new.self.items c.args.at c.args.piece p (inserts_of c.args.held.now.items c.insert.new.self.items c.args.at c.args.piece c.requires.place.within c.in-Ok.ensures.items)
