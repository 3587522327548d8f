use Rattle.cert_check.proofs.Barred.{lines_bar}
use Rattle.cert_check.proofs.laws.passed_lines_bar_nothing_lower.Goals as goal

pub returns : goal.returns
returns c = lines_bar
