use Rattle.desk.proofs.DeskLaws.{over_of}
use Rattle.desk.proofs.desk.Desk.close.Goals as goal

pub close-requires : goal.close-requires
close-requires c = record { over = over_of _ c.args.self c.self.view_is c.requires.ending }
