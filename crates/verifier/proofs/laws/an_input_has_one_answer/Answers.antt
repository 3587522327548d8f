use Rattle.verifier.proofs.OneAnswer.{one_answer}
use Rattle.command.specs.declared.extent.Extent.TheVariants.{Prefix}
use Rattle.verifier.proofs.laws.an_input_has_one_answer.Goals as goal

pub returns : goal.returns
returns c = one_answer (record {
  one_case = c.an_input_begins_with_one_case.ensures.one;
  case_or_refusal = c.an_input_begins_with_one_case.ensures.not_both;
  one_input_refusal = c.an_input_begins_with_one_case.ensures.one_refusal;
  scale = λ bytes a rest spelled. (c.spelled_cases_are_cases.ensures Prefix bytes a rest spelled).scale_positive;
  one_certificate = c.a_text_spells_one.ensures;
  one_certificate_fault = c.a_text_has_one_first_fault.ensures;
  certificate_or_fault = c.what_is_spelled_does_not_fail.ensures;
  one_verdict = c.acceptance_is_a_function.ensures.one_verdict;
  one_refusal = c.acceptance_is_a_function.ensures.one_refusal;
  accepted_or_refused = c.acceptance_is_a_function.ensures.not_both;
})
