use Rattle.search.proofs.Sets.{same_found}
use Rattle.search.proofs.found.same_pieces_are_found.Goals as goal

pub returns : goal.returns
returns c = same_found
