use Rattle.decks.proofs.Values.{value_same, value_reduced}
use Rattle.decks.proofs.laws.decimals_keep_their_value.Goals as goal

pub returns : goal.returns
returns c = record { value = value_same; lowest = value_reduced }
