use Rattle.dict_laws.proofs.OneDenominator.{exists_at_list}
use Rattle.dict_laws.proofs.dictionary_over_one_denominator_exists.Goals as goal

pub returns : goal.returns
returns c = exists_at_list
