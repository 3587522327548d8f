use Rattle.dict.proofs.Renumberings.{same_up_to_order}
use Rattle.dict.proofs.laws.dictionary_is_determined.Goals as goal

pub returns : goal.returns
returns c = same_up_to_order
