use Rattle.desk_part.proofs.OverLaws.{over_exactly}
use Rattle.desk_part.proofs.laws.a_part_is_over_where_it_has_an_ending.Goals as goal

pub returns : goal.returns
returns c = over_exactly
