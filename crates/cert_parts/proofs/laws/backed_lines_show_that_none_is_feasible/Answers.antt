use Rattle.cert_parts.proofs.CertLaws.{infeasible_accepted}
use Rattle.cert_parts.proofs.laws.backed_lines_show_that_none_is_feasible.Goals as goal

pub returns : goal.returns
returns c a lines backed = infeasible_accepted a lines backed
