use Rattle.cert_parts.proofs.TrimLaws.{trimmed_backed}
use Rattle.cert_parts.proofs.laws.trimmed_lines_are_backed.Goals as goal

pub returns : goal.returns
returns c a best known log lines sound trimmed = trimmed_backed a best known log lines sound trimmed
