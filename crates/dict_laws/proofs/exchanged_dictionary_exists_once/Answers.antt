use Rattle.dict_laws.proofs.Exact.{exists, once}
use Rattle.dict_laws.proofs.exchanged_dictionary_exists_once.Goals as goal

pub returns : goal.returns
returns c = record { exists = exists; once = once }
