use Rattle.decks.proofs.Values.{value_is}
use Rattle.mps_tables.proofs.numbers.parse_number.Goals as goal

pub returns-in-Ok-clause-value : goal.returns-in-Ok-clause-value
returns-in-Ok-clause-value c = value_is c.args.text.now _ c.in-Ok.ensures.lowest c.in-Ok.ensures.value
