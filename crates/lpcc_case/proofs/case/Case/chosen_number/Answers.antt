use Rattle.lpcc_case.proofs.Members.{members_within}
use Rattle.lpcc_case.proofs.case.Case.chosen_number.Goals as goal

pub returns-in-A-clause-within : goal.returns-in-A-clause-within
returns-in-A-clause-within c = rw c.pairs.ensures.list (members_within _ _ (0, 0) c.pairs.ensures.kept c.requires).0

pub returns-in-B-clause-within : goal.returns-in-B-clause-within
returns-in-B-clause-within c = rw c.pairs.ensures.list (members_within _ _ (0, 0) c.pairs.ensures.kept c.requires).1
