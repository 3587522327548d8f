use Rattle.std.proofs.lemmas.Int.{to_z-of_z}
use mir.Syntax.{w128}
use Rattle.lp_base.proofs.Machine.{narrow_again}
use Rattle.cert_check.proofs.Judged.{point_read}
use Rattle.cert_check.proofs.point_line.met_point.Goals as goal

pub returns-clause-found : goal.returns-clause-found
returns-clause-found c =
    point_read c.args.case.now c.args.line.now c.as_slice-terms.result.now c.args.z _ c.meets.result c.as_slice-terms.ensures c.requires (c.names_columns.ensures.0 c.if-not-names_columns.false) c.in_ok-x.ensures.narrow c.in_ok-x.ensures.list (narrow_again c.args.line.now.d c.requires.narrow) (to_z-of_z w128 c.args.z c.ranges.z) c.meets.ensures c.if-not-meets.false
