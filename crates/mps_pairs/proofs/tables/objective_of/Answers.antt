use Rattle.decks.specs.Spelling.{is_n}
use Rattle.mps_pairs.proofs.Walking.{place_or}
use Rattle.mps_pairs.proofs.tables.objective_of.Goals as goal

pub returns-clause-place : goal.returns-clause-place
returns-clause-place c = place_or (λ r. is_n r.letter) c.args.rows.now c.objective_in.result c.unwrap_or.result c.objective_in.ensures c.unwrap_or.ensures
