use Rattle.dict.proofs.LawsOfDictionaries.{wide_at_list}
use Rattle.dict.proofs.laws.wide_pivot_leads_to_wide_dictionary.Goals as goal

pub returns : goal.returns
returns c = λ a places row col d w rows is of wide at. wide_at_list a row col w.at_row w.at_col d rows is.basic of wide.cause at
