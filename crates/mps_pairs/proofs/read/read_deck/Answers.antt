use Rattle.decks.proofs.Relations.{given_only, given_only_fails}
use Rattle.decks.proofs.Kept.{given_kept}
use Rattle.mps_pairs.proofs.read.read_deck.Goals as goal

pub returns-clause-kept : goal.returns-clause-kept
returns-clause-kept c = given_kept c.deck_of.result c.args.text.now c.deck_of.ensures.spelled

pub returns-clause-only : goal.returns-clause-only
returns-clause-only c = given_only c.deck_of.result c.args.text.now c.deck_of.ensures.spelled c.deck_of.ensures.fails

pub returns-clause-only_fails : goal.returns-clause-only_fails
returns-clause-only_fails c = given_only_fails c.deck_of.result c.args.text.now c.deck_of.ensures.spelled c.deck_of.ensures.fails
