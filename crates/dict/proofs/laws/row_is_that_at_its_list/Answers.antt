use Rattle.dict.proofs.LawsOfDictionaries.{row_at_list}
use Rattle.dict.proofs.laws.row_is_that_at_its_list.Goals as goal

pub returns : goal.returns
returns c = row_at_list
