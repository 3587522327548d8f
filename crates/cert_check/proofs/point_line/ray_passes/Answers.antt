use Rattle.cert_check.proofs.Judged.{whole_names}
use Rattle.cert_check.proofs.point_line.ray_passes.Goals as goal

pub recedes-requires-clause-named : goal.recedes-requires-clause-named
recedes-requires-clause-named c = whole_names c.args.case.now c.args.piece.now c.requires.whole
