-- The certificate of a tree, and that of a point and a ray.
use Rattle.std.specs.Prelude.{◌≡◌, List, Option, Some, None}
use Rattle.nogoods.specs.declared.choice.Side.{Side}
use Rattle.lpcc_case.specs.declared.point.Point.{Point}
use Rattle.lpcc_case.specs.declared.point.Ray.{Ray}
use Rattle.cert_text.specs.declared.cert.Cert.{Cert}
use Rattle.cert_text.specs.declared.cert.Cert.TheVariants as cert
use Rattle.cert_parts.specs.Lines.{AreTrimmedLines}
use Rattle.cert_parts.specs.PieceChoices.{choices_of}
use Rattle.cert_parts.specs.PointTerms.{cert_point, terms_from}
use Rattle.tree_engine.specs.declared.tree.Tree.{Tree}
use Rattle.tree_certs.specs.Derivations.{leaves, log_of}

-- that the best point is optimal, or without one that none is feasible, with the trimmed lines of the tree
abbrev pub IsTreeCert : Option Point → Tree → Cert → Type 0
IsTreeCert (Some q) tree (cert.Optimal point z lines) = (point ≡ cert_point q) × (z ≡ q.z) × AreTrimmedLines (leaves tree) (log_of tree) lines
IsTreeCert (Some q) tree (cert.Infeasible lines) = ⊥
IsTreeCert (Some q) tree (cert.Unbounded piece point ray) = ⊥
IsTreeCert None tree (cert.Optimal point z lines) = ⊥
IsTreeCert None tree (cert.Infeasible lines) = AreTrimmedLines (leaves tree) (log_of tree) lines
IsTreeCert None tree (cert.Unbounded piece point ray) = ⊥

-- that the cost falls without end from this point of the piece along the ray
abbrev pub direction_cert : List Side → Point → Ray → Cert
direction_cert piece point ray = cert.Unbounded (choices_of piece) (cert_point point) (terms_from 0 ray.r)
