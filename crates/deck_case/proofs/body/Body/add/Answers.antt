use Rattle.deck_case.proofs.TermFacts.{without_range}
use Rattle.deck_case.proofs.body.Body.add.Goals as goal

pub objective_of_row-requires-clause-numbers : goal.objective_of_row-requires-clause-numbers
objective_of_row-requires-clause-numbers c = without_range c.args.row.now.rhs c.args.row.now.range c.args.entries.now c.requires.numbers
