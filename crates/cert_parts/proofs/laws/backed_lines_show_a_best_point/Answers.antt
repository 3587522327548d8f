use Rattle.cert_parts.proofs.CertLaws.{optimal_accepted}
use Rattle.cert_parts.proofs.laws.backed_lines_show_a_best_point.Goals as goal

pub returns : goal.returns
returns c a q lines value of feasible backed says = optimal_accepted a q lines value of feasible backed says
