use Rattle.std.proofs.Common.{◌≤◌, arith, length, subst, sym}
use Rattle.lpcc_case.specs.Pieces.{NamesPairs}
use Rattle.cert_parts.specs.PieceChoices.{choices_of}
use Rattle.tree_certs.proofs.CertLaws.{choices_named, direction_accepted, direction_is, direction_made, piece_size}
use Rattle.tree_certs.proofs.certificates.direction_cert.Goals as goal

pub choices_of-requires : goal.choices_of-requires
choices_of-requires c =
    let few : length c.args.case.now.pairs ≤ 512 = omega (arith, c.pairs-pairs.ensures.kept.few_pairs) in
    omega (arith, few, piece_size c.args.case.now c.args.piece.now c.args.point.now c.args.ray.now c.requires)

pub unbounded_cert-requires-clause-named : goal.unbounded_cert-requires-clause-named
unbounded_cert-requires-clause-named c =
    let parts = direction_is c.args.case.now c.args.piece.now c.args.point.now c.args.ray.now c.requires in
    subst (NamesPairs c.args.case.now) (sym c.in_ok-choices.ensures) (choices_named c.args.case.now (choices_of c.args.piece.now) parts.0)

pub returns-clause-cert : goal.returns-clause-cert
returns-clause-cert c = direction_made c.unbounded_cert.result c.args.piece.now c.in_ok-choices.choices c.args.point.now c.args.ray.now c.in_ok-choices.ensures c.unbounded_cert.ensures.cert

pub returns-clause-accepted : goal.returns-clause-accepted
returns-clause-accepted c =
    direction_accepted c.unbounded_cert.result c.args.case.now c.args.piece.now c.args.point.now c.args.ray.now c.requires
    (direction_made c.unbounded_cert.result c.args.piece.now c.in_ok-choices.choices c.args.point.now c.args.ray.now c.in_ok-choices.ensures c.unbounded_cert.ensures.cert)
