use Rattle.mps_pairs.proofs.GroupWords.{behind_place}
use Rattle.mps_pairs.proofs.groups.has_behind.Goals as goal

pub returns : goal.returns
returns c = behind_place c.args.place c.args.count c.requires
