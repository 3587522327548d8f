use Rattle.dict_laws.proofs.Rows.{same_reduced}
use Rattle.dict_laws.proofs.reduced_row_is_determined.Goals as goal

pub returns : goal.returns
returns c = same_reduced
