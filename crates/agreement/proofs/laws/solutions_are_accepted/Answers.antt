use Rattle.agreement.proofs.Together.{agreed}
use Rattle.agreement.proofs.laws.solutions_are_accepted.Goals as goal

pub returns : goal.returns
returns c = agreed c.spelled_once.ensures c.spelled_by_first_lines.ensures.within c.spelled_by_first_lines.ensures.whatever_follows
