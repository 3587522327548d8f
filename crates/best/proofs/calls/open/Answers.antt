use Rattle.std.proofs.Common.{arith}
use Rattle.best.proofs.Kept.{opens}
use Rattle.best.proofs.calls.open.Goals as goal

pub vacant-requires : goal.vacant-requires
vacant-requires g c = opens g.T.Entry.is_lower c.args.passes (omega arith)
