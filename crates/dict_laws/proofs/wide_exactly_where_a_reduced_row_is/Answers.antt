use Rattle.dict_laws.proofs.Exact.{exact, one_wide}
use Rattle.dict_laws.proofs.wide_exactly_where_a_reduced_row_is.Goals as goal

pub returns : goal.returns
returns c = record { exact = exact; one_denominator = one_wide }
