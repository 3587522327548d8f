use Rattle.deck_case.proofs.FaultLaws.{one_law}
use Rattle.deck_case.proofs.laws.case_exactly_without_a_fault.Goals as goal

pub returns-clause-one : goal.returns-clause-one
returns-clause-one c = one_law
