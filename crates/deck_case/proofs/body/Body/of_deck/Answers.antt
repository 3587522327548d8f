use Rattle.std.proofs.Common.{subst, sym, All}
use Rattle.lpcc_case.specs.Cases.{FitsCase}
use Rattle.deck_case.proofs.CaseFacts.{narrow_objective}
use Rattle.deck_case.proofs.body.Body.of_deck.Goals as goal

pub turn-requires-clause-costs : goal.turn-requires-clause-costs
turn-requires-clause-costs c = subst (All FitsCase) (sym c.in_ok-made.ensures.cost) (narrow_objective c.args.deck.now c.requires.deck c.in_ok-made.ensures.narrow).costs

pub turn-requires-clause-offset : goal.turn-requires-clause-offset
turn-requires-clause-offset c = subst FitsCase (sym c.in_ok-made.ensures.offset) (narrow_objective c.args.deck.now c.requires.deck c.in_ok-made.ensures.narrow).offset
