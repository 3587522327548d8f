use Rattle.editing.proofs.ReadOnce.{read_once}
use Rattle.editing.proofs.laws.edits_are_read_once.Goals as goal

pub returns : goal.returns
returns c = read_once (record {
  one_case = c.an_input_begins_with_one_case.ensures.one;
  case_or_refusal = c.an_input_begins_with_one_case.ensures.not_both;
  one_refusal = c.an_input_begins_with_one_case.ensures.one_refusal;
  one_script = c.a_text_spells_one_script.ensures;
  one_fault = c.a_text_has_one_first_fault.ensures;
  script_or_fault = c.what_is_spelled_does_not_fail.ensures;
})
