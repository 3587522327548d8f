use Rattle.cert_parts.proofs.CertLaws.{unbounded_accepted}
use Rattle.cert_parts.proofs.laws.points_and_rays_show_unbounded.Goals as goal

pub returns : goal.returns
returns c a choices q ray whole at away = unbounded_accepted a choices q ray whole at away
