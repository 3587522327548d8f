use Rattle.std.proofs.Common.{◌∙◌, sym, ap, subst}
use Rattle.decks.specs.Decks.{IsDeck}
use Rattle.deck_case.specs.DeckCases.{HasCase, case_of_deck}
use Rattle.front_case.proofs.cases.bilevel_case.Goals as goal

pub case_of-requires : goal.case_of-requires
case_of-requires c = subst IsDeck (sym c.in_ok-deck.ensures) (c.problems_have_decks.ensures.bilevel c.args.bilevel.now 0 0 c.requires)

pub returns-in-Ok : goal.returns-in-Ok
returns-in-Ok c = c.in-Ok.ensures.exact.made ∙ ap case_of_deck c.in_ok-deck.ensures

pub memory_of-requires : goal.memory_of-requires
memory_of-requires c =
    c.in-Err.ensures.found (case_of_deck c.in_ok-deck.deck) (subst (λ d. HasCase d (case_of_deck d)) (sym c.in_ok-deck.ensures) (c.problems_have_cases.ensures.bilevel c.args.bilevel.now 0 0 c.requires))
