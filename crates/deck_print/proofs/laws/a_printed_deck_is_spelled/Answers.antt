use Rattle.deck_print.proofs.Whole.{is_spelled}
use Rattle.deck_print.proofs.laws.a_printed_deck_is_spelled.Goals as goal

pub returns : goal.returns
returns c = is_spelled
