use Rattle.deck_case.proofs.Feasibility.{feasible_law}
use Rattle.kkt_front.specs.Decks.{bilevel_deck}
use Rattle.kkt_front.proofs.BilevelMeaning.{met_has_multipliers, with_multipliers_is_met}
use Rattle.kkt_front.proofs.laws.a_deck_is_met_with_multipliers.Goals as goal

pub returns-clause-deck : goal.returns-clause-deck
returns-clause-deck c = λ b bounds end p h. (met_has_multipliers b bounds end p h, with_multipliers_is_met b bounds end p h)

pub returns-clause-case : goal.returns-clause-case
returns-clause-case c = λ b bounds end p h d.
    let law = feasible_law (bilevel_deck b bounds end) p d in
    (λ f. met_has_multipliers b bounds end p h (law.0 f), λ s. law.1 (with_multipliers_is_met b bounds end p h s))
