use Rattle.command.proofs.OneCase.{read_once}
use Rattle.command.proofs.laws.a_deck_alone_is_read_once.Goals as goal

pub returns : goal.returns
returns c = read_once c.an_input_begins_with_one_case.ensures.one c.an_input_begins_with_one_case.ensures.not_both c.an_input_begins_with_one_case.ensures.one_refusal
