use Rattle.command.proofs.OneCase.{Laws, not_both, one, one_refusal}
use Rattle.command.proofs.laws.an_input_begins_with_one_case.Goals as goal

pub returns : goal.returns
returns c =
    let laws : Laws = record {
      one_deck = c.spelled_once.ensures;
      deck_or_fault = c.spelled_or_faulty.ensures.not_both;
      one_deck_fault = c.spelled_or_faulty.ensures.one_fault;
      one_case = c.case_is_determined.ensures;
      one_case_fault = c.fault_is_determined.ensures;
      case_or_fault = c.case_exactly_without_a_fault.ensures.not_both;
    } in
    record { one = one laws; not_both = not_both laws; one_refusal = one_refusal laws }
